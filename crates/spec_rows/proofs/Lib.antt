pub mod cueplaces
pub mod cuefates
