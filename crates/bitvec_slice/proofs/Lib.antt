mod AddressLemmas
pub mod ByteNumbers
pub mod DigitListLemmas
pub mod EditRangeLemmas
mod FieldJoinLemmas
pub mod FieldLemmas
mod FieldNearLemmas
pub mod FieldStoreLemmas
pub mod FindLemmas
pub mod FreeRunLemmas
pub mod InnerWordLemmas
mod IterLemmas
pub mod LentLemmas
pub mod ListCountLemmas
mod ListEdits
mod NextLemmas
mod NthLemmas
mod NumberWordLemmas
pub mod OneCountLemmas
pub mod OnesLemmas
mod PartMasks
pub mod PatternLemmas
mod PieceLemmas
mod QuestionLemmas
pub mod RunLemmas
pub mod SameBitLemmas
mod SamePlaceLemmas
mod SetLemmas
pub mod SignedLemmas
mod SkipLemmas
pub mod SlicePartLemmas
mod SliceTextLemmas
mod SpanEdits
mod SpanTurns
mod WholeWordLemmas
mod WordListLemmas
mod WordTurns
