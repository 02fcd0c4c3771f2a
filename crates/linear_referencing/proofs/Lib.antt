pub mod LengthLemmas
pub mod PlaceLemmas
pub mod ShareLemmas
