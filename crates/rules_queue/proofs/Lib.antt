pub mod Entries
pub mod Marks
pub mod Queued
pub mod SeenQueue
