pub mod Transmit
