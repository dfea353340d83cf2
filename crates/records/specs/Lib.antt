pub mod Table
pub mod Cut
pub mod Put
pub mod Seen
pub mod Beside
pub mod Open
pub mod Setters
pub mod Laid
