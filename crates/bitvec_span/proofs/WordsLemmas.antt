-- Bits in words of their own.
use Rattle.std.proofs.Common.{◌≡◌, ℕ, ◌+◌, ◌-◌, ◌*◌, ◌/◌, ◌%◌, ◌<◌, ◌≤◌, Bool, List, length, map, take, drop, Some, ap, ◌∙◌, sym, inl, inr, arith, length-drop, length-take-le}
use Rattle.std.specs.Prelude.{slice_get, slice_range}
use Rattle.std.proofs.lemmas.List.{length-map}
use Rattle.std.proofs.lemmas.Bool.{cases_eq}
use Rattle.std.proofs.lemmas.Nat.{div-add-mod', mod_below}
use Rattle.std.proofs.lemmas.Option.{slice_get-get_or}
use Rattle.std.proofs.Math.Nat.{mul-le-mul_left, mul-le-mul_right, lt_of_mul-lt-mul_right, div-eq_of_lt-le}
use Rattle.bitvec_ptr.specs.Memory.{tabulate, bit_of, memory_bits}
use Rattle.bitvec_ptr.specs.Place.{words_met}
use Rattle.bitvec_ptr.proofs.MemoryLemmas.{length-tabulate, get_or-tabulate}
use Rattle.bitvec_ptr.proofs.PlaceLemmas.{words_met-none, words_met-some}
use Rattle.bitvec_span.specs.BitParts.{WordBits, bits_list}

-- an element of a table
pub slice_get-tabulate : {A : Type 0} (n : ℕ) (f : ℕ → A) (j : ℕ) → j < n → slice_get (tabulate n f) j ≡ Some (f j)
slice_get-tabulate n f j h = slice_get-get_or (tabulate n f) j (f j) (omega (arith, h, length-tabulate n f)) ∙ ap Some (get_or-tabulate n f j (f j) h)

-- a bit of a stretch lies in the words that the stretch meets
pub met_within : (bits head len i n : ℕ) → 0 < bits → i < len → words_met bits head len ≤ n → head + i < n * bits
met_within bits head len i n some h fits =
    let met = words_met-some bits head len (omega arith) in
    let parts = div-add-mod' (head + len - 1) bits in
    let rest = mod_below (head + len - 1) bits some in
    let scaled : ((head + len - 1) / bits + 1) * bits ≤ n * bits = mul-le-mul_right bits (omega arith) in
    omega (arith, parts, rest, scaled)

-- a bit of the stretch as a bit of the memory
pub read_known : (bits : ℕ) (at : ℕ → ℕ) (b : WordBits) (i place : ℕ) (r : Bool) → 0 < bits → i < b.len → words_met bits b.head b.len ≤ length b.words → place ≡ b.head + i → slice_get (memory_bits bits at b.words) place ≡ Some r
    → slice_get (bits_list bits at b) i ≡ Some r
read_known bits at b i place r some h fits e read =
    let inside = met_within bits b.head b.len i (length b.words) some h fits in
    slice_get-tabulate b.len _ i h
    ∙ ap (λ p. Some (bit_of bits at b.words p)) (let same : 0 * bits + b.head + i ≡ place = omega arith in same)
    ∙ sym (slice_get-tabulate (length b.words * bits) (bit_of bits at b.words) place (omega arith))
    ∙ read

-- bits of one word meet no other
pub one_met : (bits head tail : ℕ) → tail ≤ bits → head ≤ tail → words_met bits head (tail - head) ≤ 1
one_met bits head tail h k =
    elim (cases_eq (tail - head) 0) [
      | inl e ↦ (let none = words_met-none bits head (tail - head) e in omega arith)
      | inr some ↦ (
          let met = words_met-some bits head (tail - head) (omega arith) in
          let first : (head + (tail - head) - 1) / bits ≡ 0 = div-eq_of_lt-le bits (omega arith) (omega arith) in
          omega (arith, met, first))
    ]

-- all bits of whole words meet just these words
pub body_met : (bits n : ℕ) → 0 < bits → words_met bits 0 (n * bits) ≤ n
body_met bits n h =
    elim (cases_eq (n * bits) 0) [
      | inl e ↦ (let none = words_met-none bits 0 (n * bits) e in omega arith)
      | inr some ↦ (
          let met = words_met-some bits 0 (n * bits) (omega arith) in
          let parts = div-add-mod' (0 + n * bits - 1) bits in
          let below : (0 + n * bits - 1) / bits < n = lt_of_mul-lt-mul_right bits (omega (arith, parts)) in
          omega (arith, met, below))
    ]

-- how many words a stretch of a memory has
pub length_stretch : {X : Type 0} (number : X → ℕ) (memory : List X) (first count : ℕ) → first + count ≤ length memory → length (slice_range (map number memory) first (first + count)) ≡ count
length_stretch number memory first count h =
    let same : first + count - first ≡ count = omega arith in
    ap (λ n. length (take n (drop first (map number memory)))) same
    ∙ length-take-le count (drop first (map number memory)) (omega (arith, length-drop first (map number memory), length-map memory number))

-- a quotient is no more than the number
pub quotient_most : (n k : ℕ) → 0 < k → n / k ≤ n
quotient_most n k some =
    let scaled : (n / k) * 1 ≤ (n / k) * k = mul-le-mul_left (n / k) some in
    omega (arith, div-add-mod' n k, scaled)

-- the number of a place, from its word and its index in there
pub place_from : (n k width rest : ℕ) → k ≡ width → rest ≡ n % k → n / k * width + rest ≡ n
place_from n k width rest same e = omega (arith, div-add-mod' n k, ap (λ w. n / k * w) same, e)
