pub mod base
