pub mod kinds
