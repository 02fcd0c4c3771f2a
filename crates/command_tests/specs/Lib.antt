pub mod Memory
pub mod Known
