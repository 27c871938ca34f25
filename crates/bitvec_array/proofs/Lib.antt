pub mod ArrayLemmas
pub mod ArrayRules
mod SameArray
