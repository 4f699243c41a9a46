pub mod AmountLaws
pub mod HeldLaws
pub mod ViewLaws
pub mod ForeignLaws
pub mod MarkLaws
pub mod Rows
