mod EditLemmas
mod SliceRunLemmas
mod SubsetLemmas
