pub mod FormBegun
pub mod FormSum
