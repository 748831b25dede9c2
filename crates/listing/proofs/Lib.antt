pub mod EmitLaws
pub mod BetweenLaws
pub mod CountLaws
pub mod VisitLaws
pub mod ListedLaws
pub mod Literals
