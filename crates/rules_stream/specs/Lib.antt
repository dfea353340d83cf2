pub mod Ok
pub mod Statement
