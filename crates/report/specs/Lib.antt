pub mod Lines
pub mod Refused
pub mod Report
pub mod Rows
