-- Request 2.12, over what a session was fed.
pub mod Sequence
