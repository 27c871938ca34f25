-- What a `BitReader` shows.
use Rattle.std.specs.Prelude.{◌≡◌, ℕ, ◌+◌, ◌-◌, Bool, List, drop, Result, MatchResult}
use Rattle.bitvec.specs.Span.{Span, span_upto, span_from}
use Rattle.bitvec_slice.specs.BitSlice.{slice_span, slice_bits}
use Rattle.bitvec_slice.specs.declared.slice.bit_slice.BitSlice.{BitSlice}
use Rattle.bitvec_stream.specs.declared.error.ReadError.{ReadError}
use Rattle.bitvec_stream.specs.declared.error.ReadError.TheVariants.{TooFew}
use Rattle.bitvec_stream.specs.declared.reader.BitReader.{BitReader}

-- the slice that it reads
abbrev pub source : {R O : Type 0} {a b c d e f g h i : _} → BitReader R O a b c d e f g h i → BitSlice R O a b c d e f g h i
source reader = reader.slice

-- how many bits of the slice are behind it
abbrev pub bits_read : {R O : Type 0} {a b c d e f g h i : _} → BitReader R O a b c d e f g h i → ℕ
bits_read reader = reader.loaded - reader.kept

-- the bits that are left, in order
abbrev pub unread : {R O : Type 0} {a b c d e f g h i : _} → BitReader R O a b c d e f g h i → List Bool
unread reader = drop (reader.loaded - reader.kept) (slice_bits reader.slice)

-- where the next `count` bits lie
abbrev pub next_span : {R O : Type 0} {a b c d e f g h i : _} → (bits : ℕ) → BitReader R O a b c d e f g h i → ℕ → Span
next_span bits reader count = span_upto (span_from bits (slice_span reader.slice) (reader.loaded - reader.kept)) count

-- A reader has passed over `count` bits: those behind them are left, of the same slice.
abbrev pub Passes : {R O : Type 0} {a b c d e f g h i : _} → (old new : BitReader R O a b c d e f g h i) → ℕ → Type 0
Passes old new count = (unread new ≡ drop count (unread old)) × (bits_read new ≡ bits_read old + count) × (source new ≡ source old)

-- what a call that passes over `count` bits answers: it has passed over them, or there are fewer, and the reader is as it was
abbrev pub PassesOrTooFew : {R O T : Type 0} {a b c d e f g h i : _} → (old new : BitReader R O a b c d e f g h i) → ℕ → Result T ReadError → Type 0
PassesOrTooFew old new count result = MatchResult result (λ _. Passes old new count) (λ error. (error ≡ TooFew) × (new ≡ old))
