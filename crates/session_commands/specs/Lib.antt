pub mod Acting
pub mod Acts
pub mod Fresh
