-- The trim list: tokens and their numbers, the ranges that they say, and the list's refusals.
pub mod Token
pub mod TrimList
