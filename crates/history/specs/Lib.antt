pub mod Calls
pub mod Lines
pub mod Entries
pub mod Reads
pub mod Shown
pub mod Recording
pub mod Logs
pub mod Figures
