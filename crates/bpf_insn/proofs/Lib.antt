pub mod WordLemmas
pub mod RowLemmas
pub mod FormLemmas
pub mod FaultLemmas
pub mod SpellingLemmas
pub mod CodeLemmas
pub mod PlaceLemmas
pub mod SpanLemmas
pub mod SlotLemmas
pub mod DecoderLemmas
pub mod EncoderLemmas
pub mod ArithmeticLemmas
mod ArithmeticExamples
