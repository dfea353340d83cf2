pub mod Pieces
pub mod KeptLaws
