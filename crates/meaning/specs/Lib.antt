pub mod SetUpInputs
pub mod Rules
pub mod Meaning
pub mod Computing
