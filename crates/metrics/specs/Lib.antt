pub mod Counters
pub mod Text
