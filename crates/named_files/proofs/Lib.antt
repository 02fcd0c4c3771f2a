pub mod FileLemmas
pub mod ProgramLemmas
