pub mod Files
pub mod Record
pub mod Sample
