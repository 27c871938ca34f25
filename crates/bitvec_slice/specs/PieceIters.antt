-- What the iterators over a slice's pieces show.
use Rattle.std.specs.Prelude.{◌≡◌, ℕ, ◌-◌, min, Bool, List, Option, MatchOption}
use Rattle.bitvec.specs.Span.{span_range}
use Rattle.bitvec_slice.specs.BitSlice.{slice_memory, slice_span, slice_len, slice_bits}
use Rattle.bitvec_slice.specs.Pieces.{windows_of, chunks_of, rchunks_of, last_start}
use Rattle.bitvec_slice.specs.declared.slice.bit_slice.BitSlice.{BitSlice}
use Rattle.bitvec_slice.specs.declared.slice.chunks.Chunks.{Chunks}
use Rattle.bitvec_slice.specs.declared.slice.chunks.ChunksExact.{ChunksExact}
use Rattle.bitvec_slice.specs.declared.slice.chunks.RChunks.{RChunks}
use Rattle.bitvec_slice.specs.declared.slice.windows.Windows.{Windows}

-- the bits of each piece that is still to come
abbrev pub windows_left : {R O : Type 0} {a b c d e f g h i : _} → Windows R O a b c d e f g h i → List (List Bool)
windows_left it = windows_of it.size (slice_bits it.rest)

abbrev pub chunks_left : {R O : Type 0} {a b c d e f g h i : _} → Chunks R O a b c d e f g h i → List (List Bool)
chunks_left it = chunks_of it.size (slice_bits it.rest)

abbrev pub chunks_exact_left : {R O : Type 0} {a b c d e f g h i : _} → ChunksExact R O a b c d e f g h i → List (List Bool)
chunks_exact_left it = chunks_left it.whole

abbrev pub rchunks_left : {R O : Type 0} {a b c d e f g h i : _} → RChunks R O a b c d e f g h i → List (List Bool)
rchunks_left it = rchunks_of it.size (slice_bits it.rest)

-- the bits behind the last whole piece
abbrev pub chunks_remainder : {R O : Type 0} {a b c d e f g h i : _} → ChunksExact R O a b c d e f g h i → List Bool
chunks_remainder it = slice_bits it.remainder

-- the slice of the bits of which pieces are still to come
abbrev pub windows_rest : {R O : Type 0} {a b c d e f g h i : _} → Windows R O a b c d e f g h i → BitSlice R O a b c d e f g h i
windows_rest it = it.rest

abbrev pub chunks_rest : {R O : Type 0} {a b c d e f g h i : _} → Chunks R O a b c d e f g h i → BitSlice R O a b c d e f g h i
chunks_rest it = it.rest

abbrev pub chunks_exact_rest : {R O : Type 0} {a b c d e f g h i : _} → ChunksExact R O a b c d e f g h i → BitSlice R O a b c d e f g h i
chunks_exact_rest it = chunks_rest it.whole

abbrev pub rchunks_rest : {R O : Type 0} {a b c d e f g h i : _} → RChunks R O a b c d e f g h i → BitSlice R O a b c d e f g h i
rchunks_rest it = it.rest

-- how many bits a piece has; the last of `chunks` and of `rchunks` may have less
abbrev pub windows_size : {R O : Type 0} {a b c d e f g h i : _} → Windows R O a b c d e f g h i → ℕ
windows_size it = it.size

abbrev pub chunks_size : {R O : Type 0} {a b c d e f g h i : _} → Chunks R O a b c d e f g h i → ℕ
chunks_size it = it.size

abbrev pub chunks_exact_size : {R O : Type 0} {a b c d e f g h i : _} → ChunksExact R O a b c d e f g h i → ℕ
chunks_exact_size it = chunks_size it.whole

abbrev pub rchunks_size : {R O : Type 0} {a b c d e f g h i : _} → RChunks R O a b c d e f g h i → ℕ
rchunks_size it = it.size

-- the slice of the bits behind the last whole piece
abbrev pub remainder_of : {R O : Type 0} {a b c d e f g h i : _} → ChunksExact R O a b c d e f g h i → BitSlice R O a b c d e f g h i
remainder_of it = it.remainder

-- a slice is the bits of another from its bit `from` to before its bit `to`, where they lie: in the same memory
abbrev pub IsRangeOf : {R O : Type 0} {a b c d e f g h i : _} → BitSlice R O a b c d e f g h i → ℕ → ℕ → BitSlice R O a b c d e f g h i → Type 0
IsRangeOf {a = own} slice from to part = (slice_memory part ≡ slice_memory slice) × (slice_span part ≡ span_range own.BITS (slice_span slice) from to)

-- A call took a piece off the front of a slice, or none: the piece is the bits before bit `to`, and the rest those from bit
-- `next` on, where they lie. Where it took none, the rest is the slice.
abbrev pub TakesFirst : {R O : Type 0} {a b c d e f g h i : _} → BitSlice R O a b c d e f g h i → ℕ → ℕ → Option (BitSlice R O a b c d e f g h i) → BitSlice R O a b c d e f g h i → Type 0
TakesFirst slice to next taken rest = MatchOption taken (rest ≡ slice) (λ piece. IsRangeOf slice 0 to piece × IsRangeOf slice next (slice_len slice) rest)

-- A call took a piece off the back of a slice, or none: the piece is the bits from bit `from` on, and the rest those before
-- bit `end`, where they lie. Where it took none, the rest is the slice.
abbrev pub TakesLast : {R O : Type 0} {a b c d e f g h i : _} → BitSlice R O a b c d e f g h i → ℕ → ℕ → Option (BitSlice R O a b c d e f g h i) → BitSlice R O a b c d e f g h i → Type 0
TakesLast slice from end taken rest = MatchOption taken (rest ≡ slice) (λ piece. IsRangeOf slice from (slice_len slice) piece × IsRangeOf slice 0 end rest)

-- a call took the first piece of `size` bits, or of what is left, off the front of a slice, or none
abbrev pub TakesFirstPiece : {R O : Type 0} {a b c d e f g h i : _} → BitSlice R O a b c d e f g h i → ℕ → Option (BitSlice R O a b c d e f g h i) → BitSlice R O a b c d e f g h i → Type 0
TakesFirstPiece slice size taken rest = let cut = min size (slice_len slice) in TakesFirst slice cut cut taken rest

-- a call took the last of the pieces off the back, where they have `size` bits from the front on, or none
abbrev pub TakesLastPiece : {R O : Type 0} {a b c d e f g h i : _} → BitSlice R O a b c d e f g h i → ℕ → Option (BitSlice R O a b c d e f g h i) → BitSlice R O a b c d e f g h i → Type 0
TakesLastPiece slice size taken rest = let cut = last_start size (slice_len slice) in TakesLast slice cut cut taken rest

-- a call took the last of the pieces off the front, where they have `size` bits from the back on, or none
abbrev pub TakesLastRPiece : {R O : Type 0} {a b c d e f g h i : _} → BitSlice R O a b c d e f g h i → ℕ → Option (BitSlice R O a b c d e f g h i) → BitSlice R O a b c d e f g h i → Type 0
TakesLastRPiece slice size taken rest = let cut = slice_len slice - last_start size (slice_len slice) in TakesFirst slice cut cut taken rest

-- what is said of the bits of a slice from bit `from` to before bit `to`, as a slice where they lie
abbrev pub InRange : {R O : Type 0} {a b c d e f g h i : _} → BitSlice R O a b c d e f g h i → ℕ → ℕ → (BitSlice R O a b c d e f g h i → Type 0) → Type 0
InRange {R} {O} {a} {b} {c} {d} {e} {f} {g} {h} {i} slice from to Said = (part : BitSlice R O a b c d e f g h i) × IsRangeOf slice from to part × Said part
