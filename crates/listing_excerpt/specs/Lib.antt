pub mod Reading
pub mod Reason
pub mod Excerpt
pub mod Listed
