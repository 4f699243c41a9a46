-- What a map tells through its records.
pub mod Through
