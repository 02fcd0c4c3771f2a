mod BodyLemmas
pub mod HeadLemmas
mod LengthLemmas
mod NumberLemmas
mod RouteLemmas
mod SearchLemmas
mod SeekLemmas
mod TableLemmas
pub mod TakeLemmas
mod TargetLemmas
pub mod WholeLemmas
mod WritingLemmas
