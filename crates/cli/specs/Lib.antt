pub mod Names
pub mod Report
pub mod FilesNamed
pub mod Sizes
pub mod CommandLine
pub mod Given
pub mod ReadWords
