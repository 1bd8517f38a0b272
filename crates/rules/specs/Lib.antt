pub mod Rules
pub mod Marks
pub mod Calls
pub mod Promises
pub mod Theorems
