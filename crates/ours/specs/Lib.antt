pub mod Board
pub mod Tied
