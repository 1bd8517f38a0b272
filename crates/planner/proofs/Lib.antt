pub mod Asking
pub mod Papers
pub mod Judging
pub mod Agreeing
pub mod Histories
pub mod Opening
pub mod Leading
