pub mod Changes
pub mod Bits
pub mod Rows
pub mod CopyEvents
pub mod OwnCopies
pub mod OwnRows
