pub mod Filling
pub mod OneAnswer
pub mod Exact
