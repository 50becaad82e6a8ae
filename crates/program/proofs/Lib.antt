pub mod SaidSo
pub mod JoinedReads
pub mod Doing
