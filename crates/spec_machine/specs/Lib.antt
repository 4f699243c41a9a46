pub mod session_counts
pub mod kinds
