pub mod SourceLines
pub mod LinesFault
