pub mod Group
pub mod Helper
pub mod Meaning
pub mod Call
