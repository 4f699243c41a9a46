pub mod Laws
pub mod LastBytes
pub mod WhiteRows
