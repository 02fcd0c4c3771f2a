pub mod EscapeLemmas
pub mod PieceLemmas
