pub mod Refusals
pub mod TextsTold
pub mod WithinLength
pub mod Characters
pub mod NumbersReadBack
pub mod InputsReadBack
pub mod SourcesFollowed
pub mod ListSteps
pub mod Examples
mod Utf8Table
mod Utf8Examples
