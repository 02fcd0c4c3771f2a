pub mod ExtractLemmas
pub mod RowLemmas
pub mod SegmentLemmas
