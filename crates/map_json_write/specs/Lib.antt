-- A segment map as the JSON of the Rust's `to_json`: the text that is written, what a text says, and the answers of writer and reader.
pub mod Written
