-- Steps from place to place.
use Rattle.std.proofs.Common.{rules, Option, Some, None, Result, Ok, Err, IsTrue, ◌↔◌, ◌≡◌, ℕ, ℤ, pos, negsuc, neg_ℤ, nat_abs, ◌*◌, ◌-◌, ◌<◌, ◌≤◌, ◌/◌, ◌+ℤ◌, ◌-ℤ◌, ◌*ℤ◌, ◌≤ℤ◌, ◌∙◌, ap, arith, to_z, of_z, lit<, suc}
use Rattle.std.specs.Prelude.{FitsSigned}
use Rattle.std.specs.Int.{w64, w128, int_wrap, cast_signed, int_wrapping_neg, int_div_euclid, int_rem_euclid}
use Rattle.std.specs.Option.{SomeIff, is_some}
use Rattle.std.specs.Result.{OkIff, is_ok}
use Rattle.std.proofs.lemmas.Int.{ints, wrapping_neg_is, int_wrap-sub_right, fits_signed_mul, to_z-of_z}
use Rattle.std.proofs.lemmas.Nat.{div-add-mod'}
use Rattle.std.proofs.Math.Nat.{mul-le-mul, mul-le-mul_left}
use borrow.Author.Differences.{sum_is_lem, product_is}
use mir.Val.{to_z, of_z}
use Rattle.bitvec_ptr.specs.Place.{Ptr, place_at, greatest_isize}
use Rattle.bitvec_ptr.specs.Steps.{wrapped_ptr}

-- the quotient and the remainder make up the number
pub euclid_parts : (z : ℤ) (k : ℕ) → 0 < k → (int_div_euclid z (pos k) *ℤ pos k) +ℤ int_rem_euclid z (pos k) ≡ z
euclid_parts (pos a) k h = omega (arith, ints)
euclid_parts (negsuc a) k h = omega (arith, ints)

-- a product by a natural number, over a sum
pub sum_times : (a b : ℤ) (k : ℕ) → (a +ℤ b) *ℤ pos k ≡ (a *ℤ pos k) +ℤ (b *ℤ pos k)
sum_times a b k = omega (arith, ints, ap (λ x. x * k) (sum_is_lem a b))

-- where a step by `count` bits ends
pub step_place : (word words count far : ℤ) (bit next k : ℕ) → 0 < k → far ≡ pos bit +ℤ count → words ≡ int_div_euclid far (pos k) → pos next ≡ int_rem_euclid far (pos k)
    → place_at k (word +ℤ words) next ≡ place_at k word bit +ℤ count
step_place word words count far bit next k h e q r =
    let parts = euclid_parts far k h in
    let both : (words *ℤ pos k) +ℤ pos next ≡ pos bit +ℤ count = rw (q, r) (parts ∙ e) in
    rw (sum_times word words k) (omega (arith, ints, both))

-- whether a sum fits, by what `checked_add` answered
pub some_if_fits : (o : Option ℤ) (P : Type 0) (v : ℤ) → SomeIff o P v → IsTrue (is_some o) ↔ P
some_if_fits None P v h = (λ t. absurd (search rules), λ p. absurd (h p))
some_if_fits (Some x) P v h = (λ t. h.0, λ p. search rules)

-- the same of a conversion
pub ok_if_fits : {E : Type 0} (r : Result ℤ E) (P : Type 0) (v : ℤ) → OkIff r P v → IsTrue (is_ok r) ↔ P
ok_if_fits (Err e) P v h = (λ t. absurd (search rules), λ p. absurd (h p))
ok_if_fits (Ok x) P v h = (λ t. h.0, λ p. search rules)

-- where a wrapping step ends, from its parts
pub wrapped-from_parts : (bits : ℕ) (ptr : Ptr) (count far words word : ℤ) (next : ℕ) → far ≡ int_wrap w64 (pos ptr.bit +ℤ count) → words ≡ int_div_euclid far (pos bits) → pos next ≡ int_rem_euclid far (pos bits)
    → word ≡ int_wrap w64 (ptr.word +ℤ words) → record { word = word; bit = next } ≡ wrapped_ptr bits ptr count
wrapped-from_parts bits ptr count far words word next f q r w =
    let wordly : word ≡ (wrapped_ptr bits ptr count).word = w ∙ ap (λ z. int_wrap w64 (ptr.word +ℤ z)) (q ∙ ap (λ z. int_div_euclid z (pos bits)) f) in
    let bitly : next ≡ (wrapped_ptr bits ptr count).bit = ap nat_abs (r ∙ ap (λ z. int_rem_euclid z (pos bits)) f) in
    λ i. record { word = wordly i; bit = bitly i }

-- a sum of an index and a count that was read as signed
pub far_same : (index bit : ℕ) (count : ℤ) → FitsSigned w64 count → index ≡ bit → int_wrap w64 (pos index +ℤ to_z w64 (of_z w64 count)) ≡ int_wrap w64 (pos bit +ℤ count)
far_same index bit count fits e = ap (λ n. int_wrap w64 (pos n +ℤ to_z w64 (of_z w64 count))) e ∙ ap (λ z. int_wrap w64 (pos bit +ℤ z)) (to_z-of_z w64 count fits)

-- a step of `count` bits from an index of a word: `far` is their sum, `words` the words in it, and `next` the index that is left
pub record IsStep (bits bit : ℕ) (count far words : ℤ) (next : ℕ) : Type 0 where
  pub sum : far ≡ pos bit +ℤ count
  pub carried : words ≡ int_div_euclid far (pos bits)
  pub index : pos next ≡ int_rem_euclid far (pos bits)

-- where a step ends
pub moved-from_step : {bits bit : ℕ} {count far words : ℤ} {next : ℕ} → IsStep bits bit count far words next → (word to : ℤ) → 0 < bits
    → to ≡ word +ℤ words → place_at bits to next ≡ place_at bits word bit +ℤ count
moved-from_step {bits = bits} {bit = bit} {count = count} {far = far} {words = words} {next = next} is word to some e =
    ap (λ z. place_at bits z next) e ∙ step_place word words count far bit next bits some is.sum is.carried is.index

-- a number of 64 bits read as signed, and its negative
pub cast_signed-wraps : (n : ℕ) → n < 18446744073709551616 → cast_signed w64 n ≡ int_wrap w64 (pos n)
unfolding int_wrap
cast_signed-wraps n h = ap (cast_signed w64) (omega arith)

pub neg-cast_signed : (n : ℕ) → n < 18446744073709551616 → int_wrapping_neg w64 (cast_signed w64 n) ≡ int_wrap w64 (neg_ℤ (pos n))
neg-cast_signed n h =
    let e = cast_signed-wraps n h in
    let fits : FitsSigned w64 (cast_signed w64 n) = omega (arith, ints) in
    let a : neg_ℤ (cast_signed w64 n) ≡ pos 0 -ℤ cast_signed w64 n = omega (arith, ints) in
    let b : pos 0 -ℤ pos n ≡ neg_ℤ (pos n) = omega (arith, ints) in
    wrapping_neg_is w64 (cast_signed w64 n) fits ∙ ap (int_wrap w64) (a ∙ ap (λ z. pos 0 -ℤ z) e) ∙ int_wrap-sub_right w64 (pos 0) (pos n) ∙ ap (int_wrap w64) b

-- a place is far from the ends of a type of 128 bits
pub place_far : (bits bit : ℕ) (word : ℤ) → bits ≤ 128 → bit ≤ bits - 1 → FitsSigned w64 word
    → (neg_ℤ (pos 2361183241434822606848) ≤ℤ place_at bits word bit) × (place_at bits word bit ≤ℤ pos 2361183241434822606848)
place_far bits bit (pos w) h k f =
    let small : w ≤ nat_abs greatest_isize = omega (arith, ints) in
    let product : w * bits ≤ nat_abs greatest_isize * 128 = mul-le-mul small h in
    (omega (arith, ints), omega (arith, ints))
place_far bits bit (negsuc w) h k f =
    let small : suc w ≤ 9223372036854775808 = omega (arith, ints) in
    let product : suc w * bits ≤ 9223372036854775808 * 128 = mul-le-mul small h in
    let whole = product_is (negsuc w) (pos bits) in
    (omega (arith, ints, whole), omega (arith, ints, whole))

-- a place, as numbers of 128 bits make it up
pub wide_place : (bits bit : ℕ) (word a b : ℤ) → bits ≤ 128 → bit ≤ bits - 1 → FitsSigned w64 word → a ≡ pos bits → b ≡ pos bit
    → to_z w128 (of_z w128 (to_z w128 (of_z w128 (to_z w128 (of_z w128 (to_z w64 (of_z w64 word))) *ℤ to_z w128 (of_z w128 a))) +ℤ to_z w128 (of_z w128 b))) ≡ place_at bits word bit
wide_place bits bit word a b h k f p q =
    let e : to_z w128 (of_z w128 (to_z w64 (of_z w64 word))) ≡ word = omega (arith, ints) in
    let d : to_z w128 (of_z w128 a) ≡ pos bits = omega (arith, ints) in
    let l : to_z w128 (of_z w128 b) ≡ pos bit = omega (arith, ints) in
    let product : FitsSigned w128 (word *ℤ pos bits) = fits_signed_mul w128 word (pos bits) 9223372036854775808 128 (omega (arith, ints)) h (lit< tt) in
    let same = to_z-of_z w128 (word *ℤ pos bits) product in
    let far = place_far bits bit word h k f in
    let fits : FitsSigned w128 (place_at bits word bit) = omega (arith, ints, far) in
    rw (e, d, l, same) (to_z-of_z w128 (place_at bits word bit) fits)

-- none of the numbers that make it up passes a type of 128 bits
pub wide_word_fits : (word : ℤ) → FitsSigned w64 word → FitsSigned w128 (to_z w64 (of_z w64 word))
wide_word_fits word f = omega (arith, ints)

pub wide_product_fits : (bits : ℕ) (word a : ℤ) → bits ≤ 128 → FitsSigned w64 word → a ≡ pos bits
    → FitsSigned w128 (to_z w128 (of_z w128 (to_z w64 (of_z w64 word))) *ℤ to_z w128 (of_z w128 a))
wide_product_fits bits word a h f p =
    let e : to_z w128 (of_z w128 (to_z w64 (of_z w64 word))) ≡ word = omega (arith, ints) in
    let d : to_z w128 (of_z w128 a) ≡ pos bits = omega (arith, ints) in
    let product : FitsSigned w128 (word *ℤ pos bits) = fits_signed_mul w128 word (pos bits) 9223372036854775808 128 (omega (arith, ints)) h (lit< tt) in
    rw (e, d) product

pub wide_sum_fits : (bits bit : ℕ) (word a b : ℤ) → bits ≤ 128 → bit ≤ bits - 1 → FitsSigned w64 word → a ≡ pos bits → b ≡ pos bit
    → FitsSigned w128 (to_z w128 (of_z w128 (to_z w128 (of_z w128 (to_z w64 (of_z w64 word))) *ℤ to_z w128 (of_z w128 a))) +ℤ to_z w128 (of_z w128 b))
wide_sum_fits bits bit word a b h k f p q =
    let e : to_z w128 (of_z w128 (to_z w64 (of_z w64 word))) ≡ word = omega (arith, ints) in
    let d : to_z w128 (of_z w128 a) ≡ pos bits = omega (arith, ints) in
    let l : to_z w128 (of_z w128 b) ≡ pos bit = omega (arith, ints) in
    let product : FitsSigned w128 (word *ℤ pos bits) = fits_signed_mul w128 word (pos bits) 9223372036854775808 128 (omega (arith, ints)) h (lit< tt) in
    let same = to_z-of_z w128 (word *ℤ pos bits) product in
    let far = place_far bits bit word h k f in
    let fits : FitsSigned w128 (place_at bits word bit) = omega (arith, ints, far) in
    rw (e, d, l, same) fits

-- a quotient by a width of a number of 64 bits
pub quotient_small : (a b : ℕ) → 8 ≤ b → a < 18446744073709551616 → a / b < 9223372036854775808
quotient_small a b h k =
    let parts = div-add-mod' a b in
    let times : (a / b) * 8 ≤ (a / b) * b = mul-le-mul_left (a / b) h in
    omega (arith, parts, times)

-- the difference of two places, as numbers of 128 bits make it up
pub wide_difference : (a b : ℤ) → neg_ℤ (pos 2361183241434822606848) ≤ℤ a → a ≤ℤ pos 2361183241434822606848 → neg_ℤ (pos 2361183241434822606848) ≤ℤ b → b ≤ℤ pos 2361183241434822606848
    → to_z w128 (of_z w128 (to_z w128 (of_z w128 a) -ℤ to_z w128 (of_z w128 b))) ≡ a -ℤ b
wide_difference a b h k l m = omega (arith, ints)

pub wide_difference_fits : (a b : ℤ) → neg_ℤ (pos 2361183241434822606848) ≤ℤ a → a ≤ℤ pos 2361183241434822606848 → neg_ℤ (pos 2361183241434822606848) ≤ℤ b → b ≤ℤ pos 2361183241434822606848
    → FitsSigned w128 (to_z w128 (of_z w128 a) -ℤ to_z w128 (of_z w128 b))
wide_difference_fits a b h k l m = omega (arith, ints)
