-- 18 blocks with a number and a sum.
pub mod Sealed
pub mod First
