pub mod Reaches
mod Carryings
mod Placings
pub mod Ordered
pub mod Drawing
