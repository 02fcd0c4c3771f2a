mod ListingLemmas
mod ProgressLemmas
mod MapLemmas
pub mod SegmentLemmas
mod TableLemmas
mod NextLemmas
pub mod RunLemmas
pub mod VerdictLemmas
