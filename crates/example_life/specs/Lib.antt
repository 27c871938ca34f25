pub mod Counts
pub mod Rule
pub mod Tally
