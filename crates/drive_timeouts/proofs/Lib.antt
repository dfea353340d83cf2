pub mod TimeOut
