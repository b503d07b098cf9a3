pub mod ExplainCommon
pub mod Listed
pub mod Texts
pub mod Reading
pub mod Stops
pub mod ReadWords
pub mod Answered
pub mod Telling
