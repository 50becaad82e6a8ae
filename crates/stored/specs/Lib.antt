pub mod Sections
pub mod Form
pub mod Reads
pub mod Views
pub mod Loading
pub mod Computing
pub mod Told
pub mod Printed
