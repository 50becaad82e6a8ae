pub mod Stretches
pub mod LogTold
