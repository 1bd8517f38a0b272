pub mod Junctions
pub mod Worked
