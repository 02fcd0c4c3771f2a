pub mod Line
pub mod Log
pub mod Logged
