pub mod Alive
pub mod Traffic
