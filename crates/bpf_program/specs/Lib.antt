pub mod Program
pub mod ProgramFault
