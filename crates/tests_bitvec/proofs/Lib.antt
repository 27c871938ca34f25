pub mod SameRunLemmas
