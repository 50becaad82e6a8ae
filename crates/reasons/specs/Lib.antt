pub mod Reasons
pub mod About
