pub mod Meeting
pub mod Keeping
pub mod Greedily
pub mod OneVerdict
pub mod OnePlan
