pub mod LittleEndian
pub mod HeaderLaws
pub mod RoundTrip
pub mod Blocks
