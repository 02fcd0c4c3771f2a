pub mod FrameMap
pub mod Lanes
pub mod OrderLaws
