pub mod LeadLaws
pub mod ByteLaws
pub mod SeenLaws
pub mod LeafLaws
