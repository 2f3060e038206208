-- The EXITINFO1 of nested page faults (APM volume 2, 15.25.6 and 15.36.10). Which bits each fault sets, beyond the places of the bits, is this project's own.
use Rattle.std.specs.Prelude.{ℕ, ◌+◌, Bool, not, ◌||◌, if◌then◌else◌}
use Rattle.snp_model.specs.declared.fault.NestedFault.{NestedFault}

-- the value of a bit where it is set
abbrev pub bit : Bool → ℕ → ℕ
bit set value = if set then value else 0

-- the sum of the bits that apply, from bit 0 upwards: P, W, U, and bits 31 to 36
unfoldable pub code_of : NestedFault → ℕ
code_of fault =
    bit fault.present 0x1
    + bit (fault.write || fault.table) 0x2
    + 0x4
    + bit fault.rmp 0x8000_0000
    + bit (not fault.table) 0x1_0000_0000
    + bit fault.table 0x2_0000_0000
    + bit fault.private 0x4_0000_0000
    + bit fault.size 0x8_0000_0000
    + bit fault.vmpl 0x10_0000_0000
