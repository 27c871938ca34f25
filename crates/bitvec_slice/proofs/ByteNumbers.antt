-- The number of whole bytes is the one that std reads from them.
use Rattle.std.proofs.Common.{◌≡◌, ℕ, zero, suc, ◌+◌, ◌-◌, ◌*◌, ◌/◌, ◌%◌, ◌^◌, ◌<◌, ◌≤◌, true, false, Bool, List, length, sym, ap, ◌∙◌, refl, inl, inr, arith}
use Rattle.std.specs.Prelude.{slice_index}
use Rattle.std.specs.Int.{byte_worth, sum_through}
use Rattle.std.proofs.lemmas.Bool.{cases_lt}
use Rattle.std.proofs.lemmas.Nat.{div-mul-add, mod-mul-add, pow-add}
use Rattle.std.proofs.Math.Nat.{mul-le-mul_right}
use Rattle.bitvec.specs.Digit.{digit}
use Rattle.bitvec.specs.Memory.{memory_bits}
use Rattle.bitvec.specs.Span.{element}
use Rattle.bitvec.proofs.DigitLemmas.{digit-mod, digit-shr}
use Rattle.bitvec.proofs.IndexLemmas.{number_of-from_digits}
use Rattle.bitvec.proofs.BitLemmas.{length-memory_bits, get_or-memory_bits}
use Rattle.bitvec_slice.specs.Field.{digit_place, field_number}
use Rattle.bitvec_slice.proofs.FieldLemmas.{digit_places}
use Rattle.bitvec.proofs.ByteLemmas.{pow_bytes}

-- ---- sums

sum_same : (f h : ℕ → ℕ) (n : ℕ) → ((i : ℕ) → i ≤ n → f i ≡ h i) → sum_through f n ≡ sum_through h n
sum_same f h zero same = same 0 (omega arith)
sum_same f h (suc n) same = (λ i. sum_same f h n (λ m le. same m (omega (arith, le))) i + same (suc n) (omega arith) i)

sum_first : (f : ℕ → ℕ) (n : ℕ) → sum_through f (suc n) ≡ f 0 + sum_through (λ i. f (suc i)) n
sum_first f zero = refl
sum_first f (suc n) = ap (λ s. s + f (suc (suc n))) (sum_first f n) ∙ omega arith

-- a sum may be taken from its other end
sum_back : (w : ℕ → ℕ → ℕ) (g : ℕ → ℕ) (n : ℕ) → sum_through (λ i. w (n - i) (g i)) n ≡ sum_through (λ i. w i (g (n - i))) n
sum_back w g zero = refl
sum_back w g (suc n) =
    let last : suc n - suc n ≡ 0 = omega arith in
    let first : suc n - 0 ≡ suc n = omega arith in
    sum_first (λ i. w (suc n - i) (g i)) n
    ∙ ap (λ m. w m (g 0) + sum_through (λ i. w (suc n - suc i) (g (suc i))) n) first
    ∙ ap (λ s. w (suc n) (g 0) + s) (sum_same (λ i. w (suc n - suc i) (g (suc i))) (λ i. w (n - i) (g (suc i))) n (λ i le. ap (λ m. w m (g (suc i))) (let step : suc n - suc i ≡ n - i = omega arith in step)))
    ∙ ap (λ s. w (suc n) (g 0) + s) (sum_back w (λ i. g (suc i)) n)
    ∙ ap (λ s. w (suc n) (g 0) + s) (sum_same (λ i. w i (g (suc (n - i)))) (λ i. w i (g (suc n - i))) n (λ i le. ap (λ m. w i (g m)) (let next : suc (n - i) ≡ suc n - i = omega (arith, le) in next)))
    ∙ turned (w (suc n) (g 0)) (sum_through (λ i. w i (g (suc n - i))) n)
    ∙ ap (λ m. sum_through (λ i. w i (g (suc n - i))) n + w (suc n) (g m)) (sym last)
  where
    turned : (a b : ℕ) → a + b ≡ b + a
    turned a b = omega arith

-- ---- the digits of a sum of bytes

-- the digits of a number with another above it
module _ (m low high : ℕ) (small : low < 2 ^ m) where
  digit-low : (j : ℕ) → j < m → digit (high * 2 ^ m + low) j ≡ digit low j
  digit-low j h = sym (digit-mod (high * 2 ^ m + low) m j h) ∙ ap (λ n. digit n j) (mod-mul-add high (2 ^ m) low small)

  digit-high : (j : ℕ) → digit (high * 2 ^ m + low) (m + j) ≡ digit high j
  digit-high j = sym (digit-shr (high * 2 ^ m + low) m j) ∙ ap (λ n. digit n j) (div-mul-add high (2 ^ m) low small)

module _ (g : ℕ → ℕ) (bytes : (i : ℕ) → g i < 256) where
  abbrev sum : ℕ → ℕ
  sum n = sum_through (λ i. byte_worth i (g i)) n

  next_sum : (n : ℕ) → sum (suc n) ≡ g (suc n) * 2 ^ (8 * suc n) + sum n
  next_sum n = ap (λ p. sum n + g (suc n) * p) (pow_bytes (suc n)) ∙ turned (sum n) (g (suc n) * 2 ^ (8 * suc n))
    where
      turned : (a b : ℕ) → a + b ≡ b + a
      turned a b = omega arith

  sum_below : (n : ℕ) → sum n < 2 ^ (8 * suc n)
  sum_below zero = bytes 0
  sum_below (suc n) =
      let before = sum_below n in
      let is = next_sum n in
      let more : (g (suc n) + 1) * 2 ^ (8 * suc n) ≤ 256 * 2 ^ (8 * suc n) = mul-le-mul_right (2 ^ (8 * suc n)) (omega (arith, bytes (suc n))) in
      let power : 2 ^ (8 * suc (suc n)) ≡ 256 * 2 ^ (8 * suc n) = ap (λ m. 2 ^ m) (let same : 8 * suc (suc n) ≡ 8 + 8 * suc n = omega arith in same) ∙ pow-add 2 8 (8 * suc n) in
      omega (arith, before, is, more, power)

  sum_digit : (n j : ℕ) → j < 8 * suc n → digit (sum n) j ≡ digit (g (j / 8)) (j % 8)
  sum_digit zero j h =
      let row : j / 8 ≡ 0 = omega (arith, h) in
      let index : j % 8 ≡ j = omega (arith, h) in
      sym (ap (λ k. digit (g k) (j % 8)) row ∙ ap (digit (g 0)) index)
  sum_digit (suc n) j h =
      ap (λ m. digit m j) (next_sum n)
      ∙ elim (cases_lt j (8 * suc n)) [
        | inl below ↦ digit-low (8 * suc n) (sum n) (g (suc n)) (sum_below n) j below ∙ sum_digit n j below
        | inr from ↦ (
            let e : j ≡ 8 * suc n + (j - 8 * suc n) = omega (arith, from) in
            let row : j / 8 ≡ suc n = omega (arith, h, from) in
            let index : j % 8 ≡ j - 8 * suc n = omega (arith, h, from) in
            ap (digit (g (suc n) * 2 ^ (8 * suc n) + sum n)) e
            ∙ digit-high (8 * suc n) (sum n) (g (suc n)) (sum_below n) (j - 8 * suc n)
            ∙ sym (ap (λ k. digit (g k) (j % 8)) row ∙ ap (digit (g (suc n))) index))
      ]

-- ---- the number of bytes

module _ (n : ℕ) (bs : List ℕ) (long : length bs ≡ suc n) (bytes : (i : ℕ) → slice_index bs i < 256) where
  bits_many : (at : ℕ → ℕ) → length (memory_bits 8 at bs) ≡ 8 * suc n
  bits_many at = length-memory_bits 8 at bs ∙ ap (λ m. m * 8) long ∙ (let same : suc n * 8 ≡ 8 * suc n = omega arith in same)

  -- under rising positions, little-endian
  pub number_of_low_bytes : field_number false 8 true 0 (memory_bits 8 (λ i. i) bs) ≡ sum_through (λ i. byte_worth i (slice_index bs i)) n
  number_of_low_bytes =
      let xs = memory_bits 8 (λ i. i) bs in
      let many = bits_many (λ i. i) in
      let product : length bs * 8 ≡ suc n * 8 = ap (λ m. m * 8) long in
      sym (number_of-from_digits (length (memory_bits 8 (λ i. i) bs)) (digit_place false 8 true 0 (length (memory_bits 8 (λ i. i) bs))) (element (memory_bits 8 (λ i. i) bs)) (sum_through (λ i. byte_worth i (slice_index bs i)) n)
      (digit_places 8 0 (length (memory_bits 8 (λ i. i) bs)) (omega arith) (omega arith) false true)
      (rw many (sum_below (slice_index bs) bytes n))
      (λ j h. sum_digit (slice_index bs) bytes n j (omega (arith, h, many)) ∙ sym (get_or-memory_bits 8 (λ i. i) bs j false (omega (arith, h, many, product)))))

  -- under falling positions, big-endian
  pub number_of_high_bytes : field_number true 8 false 0 (memory_bits 8 (λ i. 7 - i) bs) ≡ sum_through (λ i. byte_worth (n - i) (slice_index bs i)) n
  number_of_high_bytes =
      let many = bits_many (λ i. 7 - i) in
      let product : length bs * 8 ≡ suc n * 8 = ap (λ m. m * 8) long in
      let g = λ (i : ℕ). slice_index bs (n - i) in
      sym (sum_back byte_worth (slice_index bs) n
      ∙ number_of-from_digits (length (memory_bits 8 (λ i. 7 - i) bs)) (digit_place true 8 false 0 (length (memory_bits 8 (λ i. 7 - i) bs))) (element (memory_bits 8 (λ i. 7 - i) bs)) (sum_through (λ i. byte_worth i (slice_index bs (n - i))) n)
      (digit_places 8 0 (length (memory_bits 8 (λ i. 7 - i) bs)) (omega arith) (omega arith) true false)
      (rw many (sum_below (λ i. slice_index bs (n - i)) (λ i. bytes (n - i)) n))
      (λ j h.
      let q : ℕ = length (memory_bits 8 (λ i. 7 - i) bs) - 1 - j in
      let row : n - (length (memory_bits 8 (λ i. 7 - i) bs) - 1 - j) / 8 ≡ j / 8 = omega (arith, h, many) in
      let index : (length (memory_bits 8 (λ i. 7 - i) bs) - 1 - j) % 8 ≡ 7 - j % 8 = omega (arith, h, many) in
      sum_digit (λ i. slice_index bs (n - i)) (λ i. bytes (n - i)) n (length (memory_bits 8 (λ i. 7 - i) bs) - 1 - j) (omega (arith, h, many))
      ∙ ap (λ k. digit (slice_index bs k) ((length (memory_bits 8 (λ i. 7 - i) bs) - 1 - j) % 8)) row
      ∙ ap (digit (slice_index bs (j / 8))) index
      ∙ sym (get_or-memory_bits 8 (λ i. 7 - i) bs j false (omega (arith, h, many, product)))))

  -- what a slice of the bytes is loaded as
  module _ (loaded head : ℕ) (xs : List Bool) (start : head ≡ 0) where
    pub loaded_low_bytes : loaded ≡ field_number false 8 true head xs → xs ≡ memory_bits 8 (λ i. i) bs → loaded ≡ sum_through (λ i. byte_worth i (slice_index bs i)) n
    loaded_low_bytes is bits = is ∙ (λ i. field_number false 8 true (start i) (bits i)) ∙ number_of_low_bytes

    pub loaded_high_bytes : loaded ≡ field_number true 8 false head xs → xs ≡ memory_bits 8 (λ i. 7 - i) bs → loaded ≡ sum_through (λ i. byte_worth (n - i) (slice_index bs i)) n
    loaded_high_bytes is bits = is ∙ (λ i. field_number true 8 false (start i) (bits i)) ∙ number_of_high_bytes
