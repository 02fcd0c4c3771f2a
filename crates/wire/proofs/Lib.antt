mod AnswerLemmas
mod CountingLemmas
mod DecisionLemmas
pub mod EventLemmas
mod FilterLemmas
mod ServingLemmas
mod QueryLemmas
mod VerdictLemmas
mod ReplyLemmas
