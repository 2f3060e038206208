pub mod AnswersLaws
pub mod BelongLaws
pub mod DisciplineLaws
pub mod OpeningLaws
pub mod PagesLaws
