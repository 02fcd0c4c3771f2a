pub mod ReadLemmas
pub mod ReadLineLemmas
pub mod ReadRegisterLemmas
pub mod ReadRowLemmas
pub mod ReadValueLemmas
pub mod ReadWideLemmas
pub mod RoundTripLemmas
pub mod HexadecimalLemmas
mod SourceLemmas
