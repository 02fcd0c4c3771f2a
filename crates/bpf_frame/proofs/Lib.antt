pub mod AdmitLemmas
pub mod LaneLemmas
pub mod MarkLemmas
pub mod ProperLemmas
pub mod RangeLemmas
pub mod ReadLemmas
pub mod MonotoneLemmas
pub mod SlotLemmas
