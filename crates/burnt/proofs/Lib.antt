mod TellingsTold
mod LinesTold
mod FloorTold
mod ChainLines
mod ChainObserved
mod ChainBegun
mod ByKinds
mod HostsTold
pub mod PagesTold
