pub mod Amounts
pub mod HoursFirstScale
pub mod LongestClosure
pub mod Numbers
pub mod PoundsScale
