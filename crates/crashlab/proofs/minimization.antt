pub mod MadeOf
pub mod Sizes
pub mod Shrunk
pub mod Needed
