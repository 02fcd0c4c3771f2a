pub mod LineCutLemmas
pub mod OperandPairLemmas
pub mod NoteLemmas
pub mod NumberLemmas
pub mod OperandLemmas
pub mod StatementLemmas
pub mod TableLemmas
pub mod WordLemmas
