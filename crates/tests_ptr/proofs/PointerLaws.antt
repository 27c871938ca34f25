-- A wrapping step and the step back.
use Rattle.std.proofs.Common.{◌≡◌, ℕ, zero, suc, pos, negsuc, neg_ℤ, nat_abs, ◌+◌, ◌*◌, ◌/◌, ◌%◌, ◌<◌, ◌≤◌, ◌+ℤ◌, ◌-ℤ◌, ◌*ℤ◌, sym, ◌∙◌, ap, arith}
use Rattle.std.specs.Prelude.{FitsSigned}
use Rattle.std.specs.Int.{w64, int_wrap, int_div_euclid, int_rem_euclid}
use Rattle.std.proofs.lemmas.Int.{ints, int_wrap_fits, int_wrap-add_left, int_wrap-add_right}
use Rattle.std.proofs.lemmas.Nat.{div-add-mod', mod_below}
use Rattle.std.proofs.Math.Nat.{div-eq_of_lt-le}
use borrow.Author.Differences.{product_is}
use Rattle.bitvec_ptr.specs.Place.{Ptr, greatest_isize}
use Rattle.bitvec_ptr.specs.Steps.{wrapped_ptr}
use Rattle.bitvec_ptr.proofs.PlaceLemmas.{floor_place}
use Rattle.bitvec_ptr.proofs.StepLemmas.{euclid_parts}

-- an index, less a number of whole words
words_back : (bits bit q : ℕ) → bit < bits → ((neg_ℤ (pos q) *ℤ pos bits) +ℤ pos bit) +ℤ pos 0 ≡ pos bit -ℤ pos (q * bits)
words_back bits bit zero h = omega (arith, ints)
words_back bits bit (suc q) h = let product = product_is (negsuc q) (pos bits) in omega (arith, ints, product)

quotient_back : (bits bit q : ℕ) → bit < bits → int_div_euclid (pos bit -ℤ pos (q * bits)) (pos bits) ≡ neg_ℤ (pos q)
quotient_back bits bit q h =
    let some : 0 < bits = omega arith in
    let none : (bit + 0) / bits ≡ 0 = div-eq_of_lt-le bits (omega arith) (omega arith) in
    ap (λ z. int_div_euclid z (pos bits)) (sym (words_back bits bit q h)) ∙ floor_place bits (neg_ℤ (pos q)) bit 0 some ∙ omega (arith, ints, none)

rest_back : (bits bit q : ℕ) → bit < bits → int_rem_euclid (pos bit -ℤ pos (q * bits)) (pos bits) ≡ pos bit
rest_back bits bit q h =
    let some : 0 < bits = omega arith in
    let parts = euclid_parts (pos bit -ℤ pos (q * bits)) bits some in
    let parts_back : (neg_ℤ (pos q) *ℤ pos bits) +ℤ int_rem_euclid (pos bit -ℤ pos (q * bits)) (pos bits) ≡ pos bit -ℤ pos (q * bits) = rw (quotient_back bits bit q h) at parts in
    let same = words_back bits bit q h in
    omega (arith, ints, parts_back, same)

pub wrapped_back : (bits count : ℕ) (p : Ptr) → p.bit < bits → bits ≤ 128 → FitsSigned w64 p.word → p.bit + count ≤ nat_abs greatest_isize
    → wrapped_ptr bits (wrapped_ptr bits p (int_wrap w64 (pos count))) (int_wrap w64 (neg_ℤ (pos count))) ≡ p
wrapped_back bits count p h limit fits short =
    let some : 0 < bits = omega arith in
    let q = (p.bit + count) / bits in
    let r = (p.bit + count) % bits in
    let parts = div-add-mod' (p.bit + count) bits in
    let rest = mod_below (p.bit + count) bits some in
    let far : int_wrap w64 (pos p.bit +ℤ int_wrap w64 (pos count)) ≡ pos (p.bit + count) = int_wrap-add_right w64 (pos p.bit) (pos count) ∙ int_wrap_fits w64 (pos (p.bit + count)) (omega (arith, ints)) in
    let there : wrapped_ptr bits p (int_wrap w64 (pos count)) ≡ record { word = int_wrap w64 (p.word +ℤ pos q); bit = r } = ap (λ z. record { word = int_wrap w64 (p.word +ℤ int_div_euclid z (pos bits)); bit = nat_abs (int_rem_euclid z (pos bits)) }) far in
    let less : pos r +ℤ neg_ℤ (pos count) ≡ pos p.bit -ℤ pos (q * bits) = omega (arith, ints, parts) in
    let back : int_wrap w64 (pos r +ℤ int_wrap w64 (neg_ℤ (pos count))) ≡ pos p.bit -ℤ pos (q * bits) = int_wrap-add_right w64 (pos r) (neg_ℤ (pos count)) ∙ int_wrap_fits w64 (pos r +ℤ neg_ℤ (pos count)) (omega (arith, ints)) ∙ less in
    let word : int_wrap w64 (int_wrap w64 (p.word +ℤ pos q) +ℤ neg_ℤ (pos q)) ≡ p.word = int_wrap-add_left w64 (p.word +ℤ pos q) (neg_ℤ (pos q)) ∙ ap (int_wrap w64) (let same : (p.word +ℤ pos q) +ℤ neg_ℤ (pos q) ≡ p.word = omega (arith, ints) in same) ∙ int_wrap_fits w64 p.word fits in
    let word_back : int_wrap w64 (int_wrap w64 (p.word +ℤ pos q) +ℤ int_div_euclid (int_wrap w64 (pos r +ℤ int_wrap w64 (neg_ℤ (pos count)))) (pos bits)) ≡ p.word = ap (λ z. int_wrap w64 (int_wrap w64 (p.word +ℤ pos q) +ℤ z)) (ap (λ z. int_div_euclid z (pos bits)) back ∙ quotient_back bits p.bit q h) ∙ word in
    let bit_back : nat_abs (int_rem_euclid (int_wrap w64 (pos r +ℤ int_wrap w64 (neg_ℤ (pos count)))) (pos bits)) ≡ p.bit = ap nat_abs (ap (λ z. int_rem_euclid z (pos bits)) back ∙ rest_back bits p.bit q h) in
    ap (λ t. wrapped_ptr bits t (int_wrap w64 (neg_ℤ (pos count)))) there ∙ (λ i. record { word = word_back i; bit = bit_back i })
