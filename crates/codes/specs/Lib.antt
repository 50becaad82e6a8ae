pub mod Commands
pub mod Readings
pub mod Header
pub mod Computing
pub mod ByCode
