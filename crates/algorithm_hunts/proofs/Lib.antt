pub mod Shrunk
pub mod Rounds
pub mod Hunts
pub mod LeastHunts
pub mod MeanCosts
