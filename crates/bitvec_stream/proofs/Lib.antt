mod CodeLemmas
mod DigitRangeLemmas
pub mod GolombLemmas
pub mod ItemLemmas
mod KeepLemmas
mod KnownLemmas
mod MultipleLemmas
pub mod ReadBackLemmas
mod ReadLemmas
pub mod RowLemmas
pub mod SignedGolombLemmas
mod TurnedLemmas
mod WindowLemmas
pub mod WriteLemmas
pub mod WriterLemmas
