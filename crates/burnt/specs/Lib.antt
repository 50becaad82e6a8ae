pub mod Asked
pub mod Told
pub mod ChainTold
pub mod ChainTelling
pub mod LogTold
pub mod HistoryTold
pub mod Parts
