pub mod Beginning
pub mod Holding
pub mod ReportObjects
pub mod SetBlocks
pub mod StateSets
pub mod StateTexts
pub mod StatesEnds
pub mod Writing
