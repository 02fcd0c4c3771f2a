pub mod Escape
pub mod Piece
pub mod Rule
