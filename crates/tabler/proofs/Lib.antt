mod BestChoices
mod Decided
mod Drawing
mod Folds
mod Subsets
