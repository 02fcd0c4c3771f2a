mod ReadingLemmas
mod ExcerptLemmas
mod PlaceLemmas
pub mod OneExcerpt
