pub mod Coded
pub mod Crosses
pub mod Layout
pub mod Shown
