pub mod Ready
pub mod Answering
pub mod Receiving
pub mod Calls
pub mod Outcomes
pub mod Computing
