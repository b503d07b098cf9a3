pub mod Blocks
pub mod ScriptPositions
pub mod Codes
pub mod Positions
pub mod Starts
pub mod Steps
pub mod Runs
pub mod Stores
