pub mod BlockForms
pub mod LineCount
