pub mod Disturbances
pub mod Pieces
pub mod WaitingBounds
pub mod Bypass
pub mod WaitFree
pub mod UnspentNumbers
pub mod WorldWaitingBounds
pub mod ThreadWaitingBounds
