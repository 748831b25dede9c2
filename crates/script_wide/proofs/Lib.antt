pub mod ClimbLaws
pub mod GoesLaws
pub mod GoingLaws
pub mod WideLaws
