pub mod Bytes
pub mod Flat
pub mod RoundTrip
