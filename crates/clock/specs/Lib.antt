pub mod Second
pub mod After
pub mod Passing
pub mod Computing
pub mod Worked
