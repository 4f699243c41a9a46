-- White_Space, and a text stripped of it.
pub mod White
