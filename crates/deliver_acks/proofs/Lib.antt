pub mod AckOne
pub mod Clipped
pub mod AckRun
