pub mod PutLaws
pub mod Laws
