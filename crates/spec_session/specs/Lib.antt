pub mod session_state
pub mod session_lines
pub mod session
pub mod session_text
