pub mod Notation
pub mod Reads
pub mod Facts
