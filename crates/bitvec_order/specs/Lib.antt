pub mod Index
pub mod Masks
pub mod Order
pub mod OrderLemmas
pub mod Text
pub mod WordEnds
pub use Rattle.bitvec_mem.specs.Digit
