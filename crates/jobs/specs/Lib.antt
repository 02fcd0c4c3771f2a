pub mod JobFault
pub mod Segments
pub mod Table
pub mod Inside
pub mod Run
pub mod Listing
pub mod Progress
