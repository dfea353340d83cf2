pub mod TakeOne
