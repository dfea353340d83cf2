pub mod Batches
pub mod Take
