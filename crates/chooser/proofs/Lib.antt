mod Drained
pub mod Existence
mod Halves
pub mod Hits
pub mod OrderCosts
pub mod Parts
pub mod Precedence
pub mod SetCosts
mod Tallies
pub mod Trimming
pub mod UnionNumbers
