pub mod ShortLaws
