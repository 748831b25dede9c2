pub mod BelowLaws
pub mod StandingLaws
pub mod HeightLaws
pub mod DecodedLaws
pub mod SoundLaws
pub mod ExactLaws
