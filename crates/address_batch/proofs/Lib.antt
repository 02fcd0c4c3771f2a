mod CellLemmas
pub mod OutputLemmas
mod ShapedLemmas
