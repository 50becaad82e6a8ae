pub mod Machine
pub mod Collecting
pub mod Computing
