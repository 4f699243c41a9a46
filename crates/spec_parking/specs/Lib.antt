pub mod parking
pub mod session_bytes
