pub mod LeftWords
pub mod SameSize
