pub mod BatchCut
pub mod LookNext
pub mod RulesTake
pub mod TakeModel
pub mod TakeSome
