mod TextWrites
pub mod SymbolLemmas
pub mod TextLemmas
