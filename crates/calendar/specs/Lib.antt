pub mod Days
pub mod Moments
pub mod Settled
pub mod Computing
