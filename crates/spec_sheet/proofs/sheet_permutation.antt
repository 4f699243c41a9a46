pub mod BitLaws
pub mod NamingLaws
pub mod NamedLaws
pub mod Rows
