pub mod Laws
pub mod RefusalLaws
pub mod RefusalNumbers
pub mod Refusals
pub mod PartLaws
pub mod PutLaws
pub mod LentRows
pub mod PartRows
