mod CutLemmas
mod LexerLemmas
mod LongestLemmas
mod NameLemmas
mod QuoteLemmas
mod ViewLemmas
pub mod NearestLemmas
