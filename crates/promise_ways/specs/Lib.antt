pub mod Calls
pub mod CallContracts
pub mod FromC
pub mod LentTotals
pub mod Mixed
pub mod Possible
