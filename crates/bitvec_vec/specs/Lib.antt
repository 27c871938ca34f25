pub mod BitVec
pub mod Front
pub mod FromText
pub mod Lends
pub mod WithList
