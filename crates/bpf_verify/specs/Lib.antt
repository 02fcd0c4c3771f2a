pub mod LiftedState
pub mod Transfer
pub mod Verified
pub mod Annotation
pub mod Pass
pub mod VerifyFault
pub mod Visit
