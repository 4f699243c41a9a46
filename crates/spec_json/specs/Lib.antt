pub mod json
