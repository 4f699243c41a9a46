pub mod plan
