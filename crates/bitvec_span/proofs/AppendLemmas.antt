-- The bits of a memory of which a part was written.
use Rattle.std.proofs.Common.{◌≡◌, ℕ, ◌+◌, ◌-◌, ◌*◌, ◌/◌, ◌%◌, ◌<◌, ◌≤◌, Bool, false, List, ◌++◌, length, map, take, drop, sym, ap, ◌∙◌, inl, inr, arith, length-append, length-drop, length-take-le}
use Rattle.std.specs.Prelude.{slice_set, slice_index}
use Rattle.std.proofs.lemmas.Bool.{cases_eq, cases_lt}
use Rattle.std.proofs.lemmas.List.{map-append, length-map, take-append-drop, get_or_append_left, get_or-append_right, get_or-append-add, set-append_left, set-append_right}
use Rattle.std.proofs.lemmas.Nat.{div-add-mod'}
use Rattle.std.proofs.Math.Nat.{lt_of_mul-lt-mul_right}
use borrow.Rule.Slice.PartMut.{mid_of, post_of, put_mid}
use Rattle.bitvec_mem.specs.Digit.{digit}
use Rattle.bitvec_ptr.specs.Memory.{bit_of, memory_bits}
use Rattle.bitvec_ptr.proofs.MemoryLemmas.{tabulate-from_elements, place_parts}
use Rattle.bitvec_ptr.proofs.BitLemmas.{length-memory_bits, get_or-memory_bits}

-- the bits of words behind others
pub memory_bits-append : (bits : ℕ) (at : ℕ → ℕ) (xs ys : List ℕ) → 0 < bits → memory_bits bits at (xs ++ ys) ≡ memory_bits bits at xs ++ memory_bits bits at ys
memory_bits-append bits at xs ys some =
    let m : ℕ = length xs in
    let before : List Bool = memory_bits bits at xs in
    let behind : List Bool = memory_bits bits at ys in
    let long_before : length before ≡ m * bits = length-memory_bits bits at xs in
    let long_behind : length behind ≡ length ys * bits = length-memory_bits bits at ys in
    let count : length (xs ++ ys) * bits ≡ (m + length ys) * bits = ap (λ n. n * bits) (length-append xs ys) in
    sym (tabulate-from_elements (before ++ behind) (length (xs ++ ys) * bits) (bit_of bits at (xs ++ ys)) false
    (omega (arith, length-append before behind, long_before, long_behind, count))
    (λ j h. elim (cases_lt j (m * bits)) [
      | inl first ↦ (
          let parts = div-add-mod' j bits in
          let inside : j / bits < m = lt_of_mul-lt-mul_right bits (omega (arith, parts)) in
          get_or_append_left before behind false j (omega (arith, long_before))
          ∙ get_or-memory_bits bits at xs j false first
          ∙ ap (λ w. digit w (at (j % bits))) (sym (get_or_append_left xs ys 0 (j / bits) inside)))
      | inr past ↦ (
          let k : ℕ = j - m * bits in
          let whole : m * bits + k ≡ j = omega arith in
          let parts = place_parts m bits k some in
          get_or-append_right before behind (m * bits) j false long_before past
          ∙ get_or-memory_bits bits at ys k false (omega (arith, count))
          ∙ sym (ap (bit_of bits at (xs ++ ys)) (sym whole) ∙ ap (λ i. digit (slice_index (xs ++ ys) ((m * bits + k) / bits)) (at i)) parts.1 ∙ ap (λ w. digit (slice_index (xs ++ ys) w) (at (k % bits))) parts.0 ∙ ap (λ w. digit w (at (k % bits))) (get_or-append-add xs ys (k / bits) 0)))
    ]))

-- a memory is its first words, those of a part and the others
three_parts : {X : Type 0} (a k : ℕ) (xs : List X) → take a xs ++ (mid_of a k xs ++ post_of a k xs) ≡ xs
three_parts a k xs = ap (λ ys. take a xs ++ ys) (take-append-drop k (drop a xs)) ∙ take-append-drop a xs

-- so a bit that is written in the part is written in the memory
pub write_mid : {X : Type 0} (bits : ℕ) (at : ℕ → ℕ) (number : X → ℕ) (a k i : ℕ) (b : Bool)
    (xs ys : List X) → a + k ≤ length xs → i < k * bits
    → memory_bits bits at (map number ys) ≡ slice_set (memory_bits bits at (map number (mid_of a k xs))) i b
    → memory_bits bits at (map number (put_mid a k xs ys)) ≡ slice_set (memory_bits bits at (map number xs)) (a * bits + i) b
write_mid bits at number a k i b xs ys within inside written =
    let some : 0 < bits = elim (cases_eq bits 0) [
      | inl none ↦ (
          let product : k * bits ≡ k * 0 = ap (λ n. k * n) none in
          absurd (omega (arith, inside, product)))
      | inr more ↦ omega arith
    ] in
    let T : List ℕ = map number (take a xs) in
    let M : List ℕ = map number (mid_of a k xs) in
    let Y : List ℕ = map number ys in
    let P : List ℕ = map number (post_of a k xs) in
    let long : length T ≡ a = length-map (take a xs) number ∙ length-take-le a xs (omega arith) in
    let long_mid : length M ≡ k = length-map (mid_of a k xs) number ∙ length-take-le k (drop a xs) (omega (arith, length-drop a xs)) in
    let bits_before : length (memory_bits bits at T) ≡ a * bits = length-memory_bits bits at T ∙ ap (λ n. n * bits) long in
    let bits_mid : length (memory_bits bits at M) ≡ k * bits = length-memory_bits bits at M ∙ ap (λ n. n * bits) long_mid in
    let three : (zs : List _) → memory_bits bits at (map number (take a xs ++ (zs ++ post_of a k xs))) ≡ memory_bits bits at T ++ (memory_bits bits at (map number zs) ++ memory_bits bits at P) = λ zs.
    ap (memory_bits bits at) (map-append number (take a xs) (zs ++ post_of a k xs) ∙ ap (λ r. T ++ r) (map-append number zs (post_of a k xs)))
    ∙ memory_bits-append bits at T (map number zs ++ P) some
    ∙ ap (λ r. memory_bits bits at T ++ r) (memory_bits-append bits at (map number zs) P some) in
    three ys
    ∙ ap (λ r. memory_bits bits at T ++ (r ++ memory_bits bits at P)) written
    ∙ ap (λ r. memory_bits bits at T ++ r) (sym (set-append_left (memory_bits bits at M) (memory_bits bits at P) i b (omega (arith, bits_mid))))
    ∙ sym (ap (λ ws. slice_set (memory_bits bits at (map number ws)) (a * bits + i) b) (sym (three_parts a k xs))
    ∙ ap (λ r. slice_set r (a * bits + i) b) (three (mid_of a k xs))
    ∙ set-append_right (memory_bits bits at T) (memory_bits bits at M ++ memory_bits bits at P) (a * bits) (a * bits + i) b bits_before (omega arith)
    ∙ ap (λ n. memory_bits bits at T ++ slice_set (memory_bits bits at M ++ memory_bits bits at P) n b) (let same : a * bits + i - a * bits ≡ i = omega arith in same))
