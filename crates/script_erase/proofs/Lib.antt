pub mod ErasesLaws
pub mod TableLaws
pub mod LoweredLaws
pub mod StepLaws
pub mod HeadedLaws
pub mod LandedLaws
pub mod WriteLaws
pub mod LoopLaws
