pub mod Status
pub mod About
pub mod Said
pub mod Joined
pub mod Running
pub mod Telling
