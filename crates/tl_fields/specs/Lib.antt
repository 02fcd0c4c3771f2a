pub mod Aligned
pub mod Coordinate
pub mod Field
pub mod Number
