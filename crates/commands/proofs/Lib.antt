mod ClassLemmas
mod CompileLemmas
mod ExplainLemmas
mod ReadLemmas
mod CarriedLemmas
mod CountiesLemmas
mod LayerLemmas
mod RunLemmas
mod TraceLemmas
mod SelectLemmas
mod AnswerLemmas
pub mod OpenLemmas
mod BatchLemmas
