pub mod Agree
pub mod Look
pub mod Read
pub mod Take
