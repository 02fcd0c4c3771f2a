pub mod Length
pub mod Place
