-- What a `BitPtrRange` shows.
use Rattle.bitvec_ptr.specs.declared.ptr.range.BitPtrRange.{BitPtrRange}
use Rattle.bitvec_ptr.specs.BitPtr.{ptr_of, dangling}
use Rattle.std.specs.Prelude.{ℕ, pos, ◌≡◌, ◌≤◌, ◌<◌, ◌+◌, ◌+ℤ◌, Option, MatchOption}
use Rattle.bitvec_ptr.specs.declared.ptr.single.BitPtr.{BitPtr}
use Rattle.bitvec_ptr.specs.Place.{place_of}
use Rattle.bitvec_ptr.specs.PtrRange.{PtrRange, count_of}
use Rattle.bitvec_ptr.specs.PtrRangeLemmas.{ordered-itself, near-itself}

-- the two ends of a range
abbrev pub range_of : {R O : Type 0} {a b c d e f g : _} → BitPtrRange R O a b c d e f g → PtrRange
range_of range = record { start = ptr_of range.start; end = ptr_of range.end }

-- the range from the first bit of the first word to before it
abbrev pub empty_range : {R O : Type 0} {a b c d e f g : _} → BitPtrRange R O a b c d e f g
empty_range {a = own} = record {
  start = dangling;
  end = dangling;
  ordered = ordered-itself own.BITS (record { word = pos 0; bit = 0 });
  near = near-itself own.BITS (record { word = pos 0; bit = 0 });
}

-- Number n of a range's pointers is taken, and those before it dropped: it is n places past the start, and the range goes on
-- behind it. Where there is none, nothing is taken, and the range starts at its end.
abbrev pub TakesNth : {R O : Type 0} {a b c d e f g : _} → ℕ → BitPtrRange R O a b c d e f g → Option (BitPtr R O a b c d e f g)
    → BitPtrRange R O a b c d e f g → Type 0
TakesNth {a = own} n old taken new =
    let before = range_of old in
    let after = range_of new in
    MatchOption taken ((count_of own.BITS before ≤ n) × (after.start ≡ before.end))
    (λ p. (n < count_of own.BITS before)
    × (place_of own.BITS (ptr_of p) ≡ place_of own.BITS before.start +ℤ pos n)
    × (place_of own.BITS after.start ≡ place_of own.BITS (ptr_of p) +ℤ pos 1))

-- Number n of a range's pointers from the last is taken, and those behind it dropped: the end is n + 1 places past it, and the
-- range now ends before it. Where there is none, nothing is taken, and the range ends at its start.
abbrev pub TakesNthBack : {R O : Type 0} {a b c d e f g : _} → ℕ → BitPtrRange R O a b c d e f g → Option (BitPtr R O a b c d e f g)
    → BitPtrRange R O a b c d e f g → Type 0
TakesNthBack {a = own} n old taken new =
    let before = range_of old in
    let after = range_of new in
    MatchOption taken ((count_of own.BITS before ≤ n) × (after.end ≡ before.start))
    (λ p. (n < count_of own.BITS before)
    × (place_of own.BITS before.end ≡ place_of own.BITS (ptr_of p) +ℤ pos (n + 1))
    × (after.end ≡ ptr_of p))
