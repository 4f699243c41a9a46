pub mod MadeLaws
pub mod MadeRows
