-- The bits of a memory of words as the bits of their bytes.
use Rattle.std.proofs.Common.{◌≡◌, ℕ, zero, suc, ◌+◌, ◌-◌, ◌*◌, ◌/◌, ◌%◌, ◌^◌, ◌<◌, false, List, [], ◌∷◌, ◌++◌, length, sym, ap, ◌∙◌, refl, arith}
use Rattle.std.specs.Prelude.{slice_index}
use Rattle.std.specs.Int.{byte_at, bytes_low_first, bytes_high_first}
use Rattle.std.specs.List.{flat_map}
use Rattle.std.proofs.lemmas.Nat.{div-add-mod', mod_below, pow-add}
use Rattle.std.proofs.Math.Nat.{div-eq_of_lt, mod-eq_of_lt, div-lt_iff_lt-mul, pow-suc}
use Rattle.bitvec_mem.specs.Digit.{digit}
use Rattle.bitvec_ptr.specs.Memory.{tabulate, bit_of, memory_bits}
use Rattle.bitvec_mem.proofs.DigitLemmas.{digit-mod, digit-shr}
use Rattle.bitvec_ptr.proofs.MemoryLemmas.{tabulate-from_elements}
use Rattle.bitvec_ptr.proofs.BitLemmas.{length-memory_bits, get_or-memory_bits}
use Rattle.bitvec_span.proofs.AppendLemmas.{memory_bits-append}

-- 256 to the k is two to the 8 * k
pub pow_bytes : (k : ℕ) → 256 ^ k ≡ 2 ^ (8 * k)
pow_bytes zero = ap (λ m. 2 ^ m) (let same : 0 ≡ 8 * 0 = omega arith in same)
pow_bytes (suc k) =
    pow-suc 256 k ∙ ap (λ x. x * 256) (pow_bytes k) ∙ sym (pow-add 2 (8 * k) 8) ∙ ap (λ m. 2 ^ m) (let same : 8 * k + 8 ≡ 8 * suc k = omega arith in same)

-- digit p of byte k of a number is the number's digit 8 * k + p
digit-byte : (k w p : ℕ) → p < 8 → digit (byte_at k w) p ≡ digit w (8 * k + p)
digit-byte zero w p h = digit-mod w 8 p h ∙ ap (digit w) (let same : p ≡ 8 * 0 + p = omega arith in same)
digit-byte (suc k) w p h =
    digit-mod (w / 256 ^ suc k) 8 p h ∙ ap (λ n. digit (w / n) p) (pow_bytes (suc k)) ∙ digit-shr w (8 * suc k) p

length-low : (i n w : ℕ) → length (bytes_low_first i n w) ≡ n
length-low i zero w = refl
length-low i (suc n) w = ap suc (length-low (suc i) n w)

length-high : (n w : ℕ) → length (bytes_high_first n w) ≡ n
length-high zero w = refl
length-high (suc n) w = ap suc (length-high n w)

-- a byte of a number, with the lowest or with the highest first
low-at : (i n w k : ℕ) → k < n → slice_index (bytes_low_first i n w) k ≡ byte_at (i + k) w
low-at i zero w k h = absurd (omega (arith, h))
low-at i (suc n) w zero h = ap (λ m. byte_at m w) (let same : i ≡ i + 0 = omega arith in same)
low-at i (suc n) w (suc k) h = low-at (suc i) n w k (omega (arith, h)) ∙ ap (λ m. byte_at m w) (let same : suc i + k ≡ i + suc k = omega arith in same)

high-at : (n w k : ℕ) → k < n → slice_index (bytes_high_first n w) k ≡ byte_at (n - 1 - k) w
high-at zero w k h = absurd (omega (arith, h))
high-at (suc n) w zero h = ap (λ m. byte_at m w) (let same : n ≡ suc n - 1 - 0 = omega arith in same)
high-at (suc n) w (suc k) h = high-at n w k (omega (arith, h)) ∙ ap (λ m. byte_at m w) (let same : n - 1 - k ≡ suc n - 1 - suc k = omega arith in same)

-- The bits of one word of n bytes are those of n bytes, where each byte's digit at an index's position is the word's
-- digit at that of the index in the word.
one_word : (n : ℕ) (at at_byte : ℕ → ℕ) (w : ℕ) (bytes : List ℕ) → length bytes ≡ n
    → ((j : ℕ) → j < n * 8 → digit (slice_index bytes (j / 8)) (at_byte (j % 8)) ≡ digit w (at j))
    → memory_bits (n * 8) at (w ∷ []) ≡ memory_bits 8 at_byte bytes
one_word n at at_byte w bytes long each =
    let many : length bytes * 8 ≡ n * 8 = ap (λ m. m * 8) long in
    sym (tabulate-from_elements (memory_bits 8 at_byte bytes) (length (w ∷ []) * (n * 8)) (bit_of (n * 8) at (w ∷ [])) false
    (length-memory_bits 8 at_byte bytes ∙ many ∙ (let same : n * 8 ≡ 1 * (n * 8) = omega arith in same))
    (λ j h.
    let within : j < n * 8 = omega (arith, h) in
    let row : j / (n * 8) ≡ 0 = div-eq_of_lt {n = j} {m = n * 8} within in
    let index : j % (n * 8) ≡ j = mod-eq_of_lt {n = j} {m = n * 8} within in
    get_or-memory_bits 8 at_byte bytes j false (omega (arith, within, many))
    ∙ each j within
    ∙ sym (ap (λ q. digit (slice_index (w ∷ []) q) (at (j % (n * 8)))) row ∙ ap (λ i. digit w (at i)) index)))

-- and of a list of words those of all their bytes
all_words : (n : ℕ) (at at_byte : ℕ → ℕ) (bytes_of : ℕ → List ℕ) → 0 < n
    → ((w : ℕ) → memory_bits (n * 8) at (w ∷ []) ≡ memory_bits 8 at_byte (bytes_of w))
    → (words : List ℕ) → memory_bits (n * 8) at words ≡ memory_bits 8 at_byte (flat_map bytes_of words)
all_words n at at_byte bytes_of some one [] = ap (λ m. tabulate m (bit_of (n * 8) at [])) (let none : 0 * (n * 8) ≡ 0 = omega arith in none)
all_words n at at_byte bytes_of some one (w ∷ ws) =
    memory_bits-append (n * 8) at (w ∷ []) ws (omega (arith, some))
    ∙ (λ i. one w i ++ all_words n at at_byte bytes_of some one ws i)
    ∙ sym (memory_bits-append 8 at_byte (bytes_of w) (flat_map bytes_of ws) (omega arith))

-- by rising positions, the lowest byte first
pub low_bytes : (n : ℕ) → 0 < n → (words : List ℕ) → memory_bits (n * 8) (λ i. i) words ≡ memory_bits 8 (λ i. i) (flat_map (bytes_low_first 0 n) words)
low_bytes n some =
    all_words n (λ i. i) (λ i. i) (bytes_low_first 0 n) some (λ w.
    one_word n (λ i. i) (λ i. i) w (bytes_low_first 0 n w) (length-low 0 n w) (λ j h.
    let parts = div-add-mod' j 8 in
    let small = mod_below j 8 (omega arith) in
    let row : j / 8 < n = (div-lt_iff_lt-mul {k = 8} {x = j} {y = n} (omega arith)).1 h in
    ap (λ b. digit b (j % 8)) (low-at 0 n w (j / 8) row)
    ∙ digit-byte (0 + j / 8) w (j % 8) small
    ∙ ap (digit w) (let same : 8 * (0 + j / 8) + j % 8 ≡ j = omega (arith, parts) in same)))

-- by falling positions, the highest byte first
pub high_bytes : (n : ℕ) → 0 < n → (words : List ℕ) → memory_bits (n * 8) (λ i. n * 8 - 1 - i) words ≡ memory_bits 8 (λ i. 7 - i) (flat_map (bytes_high_first n) words)
high_bytes n some =
    all_words n (λ i. n * 8 - 1 - i) (λ i. 7 - i) (bytes_high_first n) some (λ w.
    one_word n (λ i. n * 8 - 1 - i) (λ i. 7 - i) w (bytes_high_first n w) (length-high n w) (λ j h.
    let parts = div-add-mod' j 8 in
    let small = mod_below j 8 (omega arith) in
    let row : j / 8 < n = (div-lt_iff_lt-mul {k = 8} {x = j} {y = n} (omega arith)).1 h in
    ap (λ b. digit b (7 - j % 8)) (high-at n w (j / 8) row)
    ∙ digit-byte (n - 1 - j / 8) w (7 - j % 8) (omega arith)
    ∙ ap (digit w) (let same : 8 * (n - 1 - j / 8) + (7 - j % 8) ≡ n * 8 - 1 - j = omega (arith, parts, small, row) in same)))
