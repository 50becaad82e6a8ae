pub mod Cases
pub mod ReadsBack
pub mod NamesRead
pub mod Refusals
pub mod ReadsSound
pub mod ReadShort
pub mod Examples
