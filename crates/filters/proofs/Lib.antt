pub mod FilterLemmas
mod JsonLemmas
mod PointedLemmas
