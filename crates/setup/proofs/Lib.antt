pub mod Refusals
pub mod Fits
