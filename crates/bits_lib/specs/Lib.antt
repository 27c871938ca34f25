pub mod Interval
pub mod View
