pub mod Lines
pub mod Ahead
pub mod Waiting
pub mod Fronts
pub mod NextLine
pub mod Forms
pub mod Computing
