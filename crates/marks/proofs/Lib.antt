pub mod BitSetLaws
pub mod MarkLaws
pub mod HybridLaws
pub mod RemarkLaws
