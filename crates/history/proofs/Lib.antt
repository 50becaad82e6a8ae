pub mod Numbers
pub mod Fits
pub mod Writing
mod ByTwos
pub mod Back
pub mod EntriesBack
pub mod Printable
pub mod Logs
pub mod Chain
pub mod ShownFits
pub mod Unsayable
pub mod ShownPlain
pub mod Served
pub mod OnlyLines
pub mod SecondsSaid
pub mod HeaderWord
mod InSixteens
