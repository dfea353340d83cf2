pub mod Remark
pub mod TimeOut
pub mod RulesDrive
