pub mod DoneSpelt
pub mod LineLeaves
mod Sound
mod Lamps
mod OneLine
mod Strays
pub mod SecondsSaid
pub mod LinesKept
pub mod TellingsSpelt
