pub mod Estimate
pub mod Window
