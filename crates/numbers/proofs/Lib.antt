pub mod Digits
pub mod Values
pub mod LeadingZeros
pub mod ReadBack
pub mod Reading
pub mod HighestFirst
pub mod Examples
pub mod OneForm
