pub mod Scan
pub mod Verified
pub use Rattle.bitvec_mem.specs.Digit
pub use Rattle.bitvec_order.specs.Order
