pub mod Layout
pub mod LineFaultKind
pub mod Lines
pub mod Records
