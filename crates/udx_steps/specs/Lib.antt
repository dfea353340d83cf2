pub mod Steps
pub mod Drive
pub mod Read
pub mod Take
pub mod Write
