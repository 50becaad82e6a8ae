pub mod Refusals
pub mod WhichSetting
pub mod Zipping
mod FitsADay
pub mod OneOfLists
mod Unsayable
mod LinesSent
mod Played
pub mod SessionsTold
