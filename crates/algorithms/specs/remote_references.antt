pub mod Copies
pub mod RemoteReferences
pub mod Passages
pub mod CopyRows
pub mod OwnCopies
