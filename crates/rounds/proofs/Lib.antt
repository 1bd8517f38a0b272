pub mod Tested
pub mod Free
pub mod Settling
