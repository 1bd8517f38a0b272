pub mod Costs
pub mod Nodes
