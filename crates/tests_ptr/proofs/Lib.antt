pub mod EndLemmas
pub mod PointerLaws
pub mod SetLemmas
