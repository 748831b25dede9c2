pub mod SizeLaws
pub mod KeyLaws
pub mod SlotLaws
pub mod RunLaws
pub mod SortedLaws
pub mod SumLaws
pub mod PartLaws
