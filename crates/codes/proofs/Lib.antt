pub mod Flattening
pub mod CommandsCoded
pub mod CodesBack
