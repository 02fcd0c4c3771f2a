pub mod Failure
pub mod Filter
pub mod OptionsFault
pub mod Options
