pub mod WriteLoop
pub mod Going
