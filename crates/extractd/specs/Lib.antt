pub mod Listening
pub mod Serving
pub mod Outcome
