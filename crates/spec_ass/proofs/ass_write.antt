pub mod TagLaws
pub mod WriteLaws
pub mod FieldBack
pub mod FitLaws
pub mod TagRows
