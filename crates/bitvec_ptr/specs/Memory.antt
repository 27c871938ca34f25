-- The bits of a memory. A memory is the list of its words' numbers, `bits` is the width of a word, and `at` takes an
-- index in a word to its position in the number.
use Rattle.std.specs.Prelude.{ℕ, ◌+◌, ◌*◌, ◌/◌, ◌%◌, ◌++◌, Bool, List, [], ◌∷◌, length, map, take, drop, slice_index}
use Rattle.std.specs.List.{range_with_len}
use Rattle.bitvec_mem.specs.Digit.{digit}

-- the list of f 0, f 1, .. up to before f n
abbrev pub tabulate : {A : Type 0} → ℕ → (ℕ → A) → List A
tabulate n f = map f (range_with_len 0 n)

-- the bit at a place: the digit at(i) of word w, where the place is w * bits + i
abbrev pub bit_of : ℕ → (ℕ → ℕ) → List ℕ → ℕ → Bool
bit_of bits at words place = digit (slice_index words (place / bits)) (at (place % bits))

-- all bits of a memory, by rising place
abbrev pub memory_bits : ℕ → (ℕ → ℕ) → List ℕ → List Bool
memory_bits bits at words = tabulate (length words * bits) (bit_of bits at words)

-- the target with its elements t, t + 1, .., `count` of them, replaced by the source's elements s, s + 1, ..
abbrev pub list_with_copy : {A : Type 0} (source : List A) (s : ℕ) (target : List A) (t count : ℕ) → List A
list_with_copy source s target t count = take t target ++ take count (drop s source) ++ drop (t + count) target

-- f of each element of the one list and that of the other at its place, as long as both have one
unfoldable pub zip_with : {A B C : Type 0} → (A → B → C) → List A → List B → List C
zip_with f [] ys = []
zip_with f (x ∷ xs) [] = []
zip_with f (x ∷ xs) (y ∷ ys) = f x y ∷ zip_with f xs ys

-- the target with its elements t, t + 1, .., `count` of them, each replaced by f of it and the source's element s, s + 1, ..
abbrev pub list_with : {A : Type 0} (f : A → A → A) (source : List A) (s : ℕ) (target : List A) (t count : ℕ) → List A
list_with f source s target t count = take t target ++ take count (zip_with f (drop t target) (drop s source)) ++ drop (t + count) target
