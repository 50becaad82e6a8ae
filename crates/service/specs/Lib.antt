pub mod Differences
pub mod ComparedHolds
