pub mod Access
pub mod Reach
pub mod Arithmetic
pub mod Failure
pub mod Listing
pub mod Explanation
