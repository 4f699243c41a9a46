-- A session kept as its 18 blocks between two calls.
pub mod ByteCalls
pub mod Text
