pub mod caption_rows
pub mod cueplaces
pub mod cuefates
