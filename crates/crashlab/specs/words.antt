pub mod JobWords
pub mod MachineStateWords
