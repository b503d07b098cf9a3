pub mod Shrunk
pub mod Hunted
pub mod Rounds
pub mod MeanCosts
