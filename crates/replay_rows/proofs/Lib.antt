-- Captions as rows, as `replay` is asked about them.
pub mod OpLaws
