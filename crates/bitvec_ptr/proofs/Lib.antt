pub mod BitLemmas
pub mod CombineLemmas
pub mod CopyLemmas
mod FallingRows
pub mod GatherLemmas
pub mod ListJoins
pub mod MemoryLemmas
pub mod PairLemmas
pub mod PlaceLemmas
pub mod PlaceOrder
pub mod RangeEnds
pub mod RangeLemmas
pub mod StepLemmas
mod StretchMaskLemmas
pub mod WriterJoins
