pub mod Bits
mod Commas
pub mod Decided
pub mod Laws
pub mod Listing
pub mod Lists
pub mod Parts
