pub mod ListingLemmas
pub mod PrefixLemmas
pub mod ExplanationLemmas
