pub mod Array
pub mod BitArray
pub mod Lends
