pub mod Hunts
pub mod Found
pub mod Draws
pub mod Observed
pub mod Hunted
