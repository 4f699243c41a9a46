-- The delay that loses least.
pub mod Delay
pub mod Loss
pub mod Paint
pub mod Tally
pub mod BestDelay
pub mod Order
