-- Lists of truth values cut into lists.
use Rattle.std.specs.Prelude.{ℕ, ◌+◌, ◌-◌, ◌*◌, ◌/◌, Bool, List, length, take, drop, slice_range}
use Rattle.std.specs.Slice.Iter.{chunk_count}
use Rattle.bitvec.specs.Memory.{tabulate}

-- each n elements of a list that are side by side, from the front on
abbrev pub windows_of : ℕ → List Bool → List (List Bool)
windows_of n xs = tabulate (length xs + 1 - n) (λ k. take n (drop k xs))

-- a list in pieces of n elements, from the front on; the last piece has what is left
abbrev pub chunks_of : ℕ → List Bool → List (List Bool)
chunks_of n xs = tabulate (chunk_count (length xs) n) (λ k. take n (drop (k * n) xs))

-- a list in pieces of n elements, from the back on: the first piece is the end of the list, and the last has what is left
abbrev pub rchunks_of : ℕ → List Bool → List (List Bool)
rchunks_of n xs = tabulate (chunk_count (length xs) n) (λ k. slice_range xs (length xs - (k + 1) * n) (length xs - k * n))

-- where the last piece begins, with what is left, of `len` elements in pieces of n from the front on
abbrev pub last_start : ℕ → ℕ → ℕ
last_start n len = (len - 1) / n * n
