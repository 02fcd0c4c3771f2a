pub mod CodeText
pub mod SourceFault
pub mod Conversion
