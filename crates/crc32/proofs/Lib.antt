pub mod Shifts
pub mod GoesOn
mod ByTable
mod ByChunks
pub mod Changes
mod Vectors
