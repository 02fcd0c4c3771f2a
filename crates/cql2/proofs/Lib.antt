pub mod Edges
pub mod Finer
pub mod Products
pub mod Sides
pub mod Starts
pub mod Upright
