pub mod Packets
pub mod Passes
