pub mod Contracts
pub mod Example
pub mod ShortReads
pub mod TurnLaws
pub mod Whole
