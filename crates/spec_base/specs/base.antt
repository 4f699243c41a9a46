-- What every crate shares: limits, the order of refusals, parts of lists, writing into a buffer.
pub mod Limits
pub mod Refusal
pub mod Part
pub mod Width
pub mod Put
pub mod Ascii
