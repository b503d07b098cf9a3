pub mod Lines
pub mod Crashes
pub mod Drawn
pub mod Shares
pub mod Observed
pub mod Answered
pub mod Found
