pub mod Acked
pub mod Sacks
