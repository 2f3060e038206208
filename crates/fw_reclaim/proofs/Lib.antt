pub mod ReclaimLaws
