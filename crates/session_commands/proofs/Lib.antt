pub mod ActLaws
pub mod Arms
