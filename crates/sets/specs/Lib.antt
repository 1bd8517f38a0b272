pub mod Member
pub mod Listed
pub mod Steps
pub mod Text
