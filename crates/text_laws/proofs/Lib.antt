mod CutLaws
mod OrderLaws
