pub mod Degrees
pub mod Millionths
pub mod Numeral
