mod Tables
mod Sums
mod Rotation
mod Chosen
mod Rows
mod Stored
mod Padded
mod Blocks
pub mod Laws
mod Vectors
pub mod OneForm
pub mod BothDigits
