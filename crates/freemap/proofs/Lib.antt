pub mod BitOneLaws
pub mod CountLaws
pub mod FlipLaws
pub mod MapLaws
pub mod DrawLaws
