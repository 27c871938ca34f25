-- Ranges of pointers, and their places. `bits` is the width of a word.
use Rattle.std.specs.Prelude.{ℕ, ℤ, pos, nat_abs, ◌+ℤ◌, ◌≤ℤ◌, ◌<ℤ◌, List}
use Rattle.bitvec_ptr.specs.Memory.{tabulate}
use Rattle.bitvec_ptr.specs.Place.{Ptr, place_of, greatest_isize}
use Rattle.bitvec_ptr.specs.Steps.{distance}

-- a range by its two ends: from the place of the first to before that of the second
pub record PtrRange : Type 0 where
  pub start : Ptr
  pub end : Ptr

-- two pointers bound a range: the first is not past the second, and their distance is an `isize`
abbrev pub CanRange : ℕ → Ptr → Ptr → Type 0
CanRange bits start end = (place_of bits start ≤ℤ place_of bits end) × (distance bits end start ≤ℤ greatest_isize)

-- how many places a range has
abbrev pub count_of : ℕ → PtrRange → ℕ
count_of bits range = nat_abs (distance bits range.end range.start)

-- the places of a range, in order
abbrev pub places_of : ℕ → PtrRange → List ℤ
places_of bits range = tabulate (count_of bits range) (λ k. place_of bits range.start +ℤ pos k)

-- the place of a pointer is one of those of a range
abbrev pub Holds : ℕ → PtrRange → Ptr → Type 0
Holds bits range ptr = (place_of bits range.start ≤ℤ place_of bits ptr) × (place_of bits ptr <ℤ place_of bits range.end)
