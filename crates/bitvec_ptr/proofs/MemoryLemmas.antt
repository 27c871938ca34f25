-- Lists made place by place, and the bit at a place of a memory.
use Rattle.std.proofs.Common.{◌≡◌, ℕ, ◌+◌, ◌*◌, ◌/◌, ◌%◌, ◌<◌, List, length, get_or, refl, ◌∙◌, ap, arith}
use Rattle.std.specs.Prelude.{slice_index}
use Rattle.std.proofs.lemmas.Nat.{div-add-mod', div-mul-add, mod-mul-add, mod_below}
use Rattle.std.proofs.lemmas.List.FromFn.{fill_by_all, get_or-map-range_with_len, length-map-range_with_len}
use Rattle.bitvec_mem.specs.Digit.{digit}
use Rattle.bitvec_ptr.specs.Memory.{tabulate, bit_of}

-- two tables with the same entries are equal
pub tabulate_same : {A : Type 0} (n : ℕ) (f g : ℕ → A) (d : A) → ((j : ℕ) → j < n → f j ≡ g j) → tabulate n f ≡ tabulate n g
tabulate_same n f g d same =
    fill_by_all g (tabulate n f) n d (length-map-range_with_len f 0 n) (λ k h. get_or-map-range_with_len f 0 n k k d h (omega arith) ∙ same k h)

pub length-tabulate : {A : Type 0} (n : ℕ) (f : ℕ → A) → length (tabulate n f) ≡ n
length-tabulate n f = length-map-range_with_len f 0 n

pub get_or-tabulate : {A : Type 0} (n : ℕ) (f : ℕ → A) (j : ℕ) (d : A) → j < n → get_or (tabulate n f) j d ≡ f j
get_or-tabulate n f j d h = get_or-map-range_with_len f 0 n j j d h (omega arith)

-- a list is the table of its elements
pub tabulate-from_elements : {A : Type 0} (xs : List A) (n : ℕ) (f : ℕ → A) (d : A) → length xs ≡ n → ((j : ℕ) → j < n → get_or xs j d ≡ f j) → xs ≡ tabulate n f
tabulate-from_elements xs n f d long same = fill_by_all f xs n d long same

-- the word and the index of the place n places on from the start of a word
pub place_parts : (word bits n : ℕ) → 0 < bits → ((word * bits + n) / bits ≡ word + n / bits) × ((word * bits + n) % bits ≡ n % bits)
place_parts word bits n h =
    let parts = div-add-mod' n bits in
    let small = mod_below n bits h in
    let e : word * bits + n ≡ (word + n / bits) * bits + n % bits = omega arith in
    (ap (λ m. m / bits) e ∙ div-mul-add (word + n / bits) bits (n % bits) small, ap (λ m. m % bits) e ∙ mod-mul-add (word + n / bits) bits (n % bits) small)

-- the bit there
pub bit_of-place : (bits : ℕ) (at : ℕ → ℕ) (words : List ℕ) (word n : ℕ) → 0 < bits → bit_of bits at words (word * bits + n) ≡ digit (slice_index words (word + n / bits)) (at (n % bits))
bit_of-place bits at words word n h = let p = place_parts word bits n h in rw (p.0, p.1) refl
