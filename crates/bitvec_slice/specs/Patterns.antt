-- Where a list of truth values has the elements of another, and from which multiples of a number on `count` are false.
use Rattle.std.specs.Prelude.{◌≡◌, ℕ, ◌+◌, ◌<◌, ◌≤◌, ◌%◌, Bool, List, length, slice_range}
use Rattle.bitvec_slice.specs.Bits.{AreFree}

-- i is the least number that is so
abbrev pub IsLeast : (ℕ → Type 0) → ℕ → Type 0
IsLeast P i = P i × ((k : ℕ) → k < i → ¬ P k)

-- the elements of a list from element i on begin with those of another
abbrev pub HasAt : List Bool → List Bool → ℕ → Type 0
HasAt xs ys i = (i + length ys ≤ length xs) × (slice_range xs i (i + length ys) ≡ ys)

-- the `count` elements of a list from element i on are there, and false; i is not before `start`, and a multiple of a number
abbrev pub AreFreeFrom : List Bool → ℕ → ℕ → ℕ → ℕ → Type 0
AreFreeFrom xs start count multiple_of i = (start ≤ i) × (i % multiple_of ≡ 0) × AreFree xs i count
