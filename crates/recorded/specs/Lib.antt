pub mod Recorded
pub mod Playing
pub mod Played
pub mod Chain
pub mod Hosts
pub mod Following
