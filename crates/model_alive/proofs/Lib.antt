pub mod AliveWrite
pub mod AliveCarried
pub mod AliveDue
pub mod Traffic
