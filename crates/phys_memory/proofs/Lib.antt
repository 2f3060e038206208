pub mod PageLaws
