pub mod Bounds
pub mod Joins
pub mod Order
pub mod Sums
pub mod Totals
