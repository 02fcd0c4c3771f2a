mod CandidateLemmas
mod GazetteerLemmas
mod HitLemmas
mod MatchHitLemmas
mod MatchLemmas
mod NameHashLemmas
mod NameIndexLemmas
mod MeasureLemmas
mod SearchLemmas
mod SpanLemmas
mod StreetLemmas
pub mod Latin1Lemmas
