pub mod Flow
pub mod FlowFault
