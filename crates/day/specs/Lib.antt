pub mod Days
pub mod Rules
pub mod Verdicts
pub mod Plans
