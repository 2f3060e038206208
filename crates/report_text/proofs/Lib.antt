pub mod CutLaws
pub mod EventAgain
pub mod EventWords
pub mod HexLaws
pub mod Lines
pub mod PieceLaws
pub mod Runs
pub mod TagLaws
