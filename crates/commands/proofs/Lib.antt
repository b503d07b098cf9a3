pub mod Finishing
pub mod Sessions
pub mod Tapes
