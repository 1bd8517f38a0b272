pub mod Led
pub mod Views
pub mod Asks
pub mod Papers
pub mod Landmarks
pub mod Files
pub mod Parts
