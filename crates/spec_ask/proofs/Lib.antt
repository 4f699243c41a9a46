pub mod ask_order
