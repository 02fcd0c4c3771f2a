mod DegreesLemmas
pub mod NumeralLemmas
