pub mod Counting
mod Settled
