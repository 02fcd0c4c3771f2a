pub mod LoopLemmas
pub mod SplitLemmas
pub mod TextLemmas
pub mod NoteLemmas
pub mod SlotLemmas
