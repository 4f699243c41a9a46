pub mod ask_order
pub mod ask_rough
pub mod ask_reason
pub mod ask_edges
pub mod ask_census
pub mod ask_delay
