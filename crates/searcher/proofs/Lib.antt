mod Bounding
mod Floors
mod Pairings
mod Prices
mod Steps
mod Walks
