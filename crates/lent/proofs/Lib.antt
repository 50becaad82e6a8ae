pub mod InChunks
pub mod Writing
