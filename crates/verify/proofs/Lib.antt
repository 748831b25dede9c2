pub mod VerdictLaws
pub mod AnswerLaws
pub mod EmptyLaws
pub mod Example
