pub mod LaneLemmas
pub mod NumberLemmas
