pub mod Beside
pub mod Orders
