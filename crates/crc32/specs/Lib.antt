pub mod Crc
pub mod Published
pub mod Table
