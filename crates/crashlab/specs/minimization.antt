pub mod MadeOf
pub mod Least
pub mod Shrunk
