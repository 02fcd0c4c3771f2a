pub mod Buffered
pub mod Content
pub mod Counting
pub mod ReaderWriter
pub mod Fuse
pub mod Writing
