-- The bits of one word of 128, and spans in it, as digits of a number.
use Rattle.std.proofs.Common.{◌≡◌, ℕ, ◌+◌, ◌-◌, ◌/◌, ◌%◌, ◌<◌, ◌≤◌, false, [], ◌∷◌, get_or, take, drop, ap, ◌∙◌, arith, length-drop}
use Rattle.std.specs.Prelude.{slice_index}
use Rattle.std.proofs.lemmas.List.{length-take-le, get_or-take, get_or-drop}
use Rattle.bitvec.specs.Digit.{digit}
use Rattle.bitvec.specs.Memory.{memory_bits}
use Rattle.bitvec.proofs.BitLemmas.{length-memory_bits, get_or-memory_bits}
use Rattle.bitvec.proofs.MemoryLemmas.{tabulate-from_elements}
use Rattle.bitvec_slice.specs.Numbers.{digits_le, digits_be}

word_bit : (at : ℕ → ℕ) (n j : ℕ) → j < 128 → get_or (memory_bits 128 at (n ∷ [])) j false ≡ digit n (at j)
word_bit at n j h =
    let one : j / 128 ≡ 0 = omega (arith, h) in
    let same : j % 128 ≡ j = omega (arith, h) in
    get_or-memory_bits 128 at (n ∷ []) j false (omega (arith, h))
    ∙ ap (λ k. digit (slice_index (n ∷ []) k) (at (j % 128))) one ∙ ap (λ k. digit n (at k)) same

-- the first bits under rising positions are the lowest digits
pub low_bits : (at : ℕ → ℕ) (n count : ℕ) → count ≤ 128 → ((i : ℕ) → i < 128 → at i ≡ i) → take count (memory_bits 128 at (n ∷ [])) ≡ digits_le count n
low_bits at n count h rises =
    let many = length-memory_bits 128 at (n ∷ []) in
    tabulate-from_elements (take count (memory_bits 128 at (n ∷ []))) count (digit n) false (length-take-le count (memory_bits 128 at (n ∷ [])) (omega (arith, h, many)))
    (λ j below.
    get_or-take count (memory_bits 128 at (n ∷ [])) j false below
    ∙ word_bit at n j (omega (arith, h, below)) ∙ ap (digit n) (rises j (omega (arith, h, below))))

-- the last bits under falling positions are the lowest digits, the highest of them first
pub high_bits : (at : ℕ → ℕ) (n count : ℕ) → count ≤ 128 → ((i : ℕ) → i < 128 → at i ≡ 127 - i) → drop (128 - count) (memory_bits 128 at (n ∷ [])) ≡ digits_be count n
high_bits at n count h falls =
    let many = length-memory_bits 128 at (n ∷ []) in
    tabulate-from_elements (drop (128 - count) (memory_bits 128 at (n ∷ []))) count (λ j. digit n (count - 1 - j)) false (length-drop (128 - count) (memory_bits 128 at (n ∷ [])) ∙ omega (arith, h, many))
    (λ j below.
    let place : 127 - (128 - count + j) ≡ count - 1 - j = omega (arith, h, below) in
    get_or-drop (128 - count) (memory_bits 128 at (n ∷ [])) j false
    ∙ word_bit at n (128 - count + j) (omega (arith, h, below)) ∙ ap (digit n) (falls (128 - count + j) (omega (arith, h, below)) ∙ place))
