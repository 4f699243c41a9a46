pub mod TicksLaws
pub mod BuildLaws
pub mod KeptLaws
pub mod MapLaws
pub mod Built
pub mod Blank
pub mod NumberRows
