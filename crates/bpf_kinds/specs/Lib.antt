pub mod NumberWidth
pub mod Interval
pub mod Offsets
pub mod Kind
pub mod Results
pub mod Narrowing
pub mod Moving
pub mod Order
