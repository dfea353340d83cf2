pub mod SettleOne
pub mod SettleAll
