pub mod Execution
pub mod Member
pub mod Trails
pub mod Answers
pub mod Whole
pub mod LabEndings
pub mod Shown
