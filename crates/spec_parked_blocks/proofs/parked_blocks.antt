pub mod Bytes
pub mod Again
pub mod WriteLaws
pub mod ReadLaws
pub mod FirstLaws
