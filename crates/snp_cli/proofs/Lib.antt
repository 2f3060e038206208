pub mod FlushLaws
