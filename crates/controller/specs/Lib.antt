pub mod Writing
pub mod Reading
pub mod Computing
