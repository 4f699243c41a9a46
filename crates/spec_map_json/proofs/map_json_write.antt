pub mod ReadsRows
pub mod Back
pub mod Clean
pub mod Whole
pub mod Limits
pub mod ReadRows
