pub mod Bytes
pub mod Elements
pub mod FilledDomain
pub mod LentBits
pub mod Outside
