pub mod RenderLaws
pub mod FirstLaws
