mod Digits
mod Frames
mod Goings
mod Comings
mod Fills
mod Adds
mod Wholes
mod Vets
pub mod Puts
mod Keeping
mod Uniques
mod OneFault
