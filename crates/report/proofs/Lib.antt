mod Told
mod Drawn
mod Named
pub mod Settled
