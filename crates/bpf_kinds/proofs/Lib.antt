pub mod KindLemmas
pub mod BitLemmas
pub mod HoldLemmas
pub mod OperationLemmas
pub mod ShiftLemmas
pub mod ExactLemmas
pub mod AluLemmas
pub mod ResultLemmas
pub mod LowerLemmas
mod MonotoneLemmas
pub mod ResultsMonotone
pub mod NarrowingLaws
pub mod NarrowingMonotone
mod MovingLemmas
pub mod MovingLaws
pub mod MovingMonotone
pub mod ListLemmas
