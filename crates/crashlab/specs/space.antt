pub mod Spaces
pub mod Numbered
pub mod FoundBy
pub mod SearchStateWords
pub mod Reduced
pub mod Starvation
