pub mod Alike
pub mod Character
pub mod Lexed
pub mod Name
pub mod Nearest
