pub mod LittleEndian
pub mod Header
pub mod Blocks
pub mod RoundTrip
