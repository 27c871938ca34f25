mod BoolLemmas
pub mod FrontLemmas
pub mod GrowthLemmas
mod LastLemmas
mod LendLemmas
pub mod VecLemmas
