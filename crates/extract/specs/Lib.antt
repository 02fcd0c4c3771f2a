pub mod ExtractFault
pub mod Extracting
pub mod Formatting
pub mod Rows
