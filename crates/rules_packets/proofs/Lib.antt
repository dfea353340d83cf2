pub mod Bools
pub mod From
pub mod Held
pub mod SeenPackets
pub mod SeenStore
pub mod Stored
