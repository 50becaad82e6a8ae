pub mod Watching
pub mod Marking
pub mod CallSteps
pub mod Telling
pub mod States
