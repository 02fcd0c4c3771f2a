pub mod AddressQuery
pub mod Batch
pub mod Lines
pub mod LookupResult
pub mod Output
pub mod ReadyWriter
pub mod ShapedLookup
