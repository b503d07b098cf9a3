pub mod CallLines
pub mod Widths
pub mod FirstWords
pub mod LocalRounds
pub mod Names
pub mod NextAccesses
pub mod Ranked
pub mod Worlds
