-- The ops of `replay` about a text or a session.
pub mod Op
