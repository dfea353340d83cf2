pub mod Packets
pub mod Timeouts
