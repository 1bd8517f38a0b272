pub mod Adds
pub mod Puts
