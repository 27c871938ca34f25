pub mod HeaderFieldLemmas
pub mod HeaderLemmas
pub mod SteadyLemmas
