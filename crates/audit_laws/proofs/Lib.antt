pub mod CommandFits
pub mod CpuFits
pub mod EventFits
pub mod GuestFits
pub mod HostFits
pub mod OwnReport
pub mod RunHeard
