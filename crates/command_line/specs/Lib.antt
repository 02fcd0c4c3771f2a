pub mod Address
pub mod Arguments
pub mod Fault
pub mod Values
pub mod Request
