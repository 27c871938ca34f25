-- Words that an interval of places meets, and the word in which it ends.
use Rattle.std.proofs.Common.{◌≡◌, ℕ, ℤ, pos, negsuc, ◌+◌, ◌*◌, ◌-◌, ◌<◌, ◌≤◌, ◌/◌, ◌%◌, ◌+ℤ◌, ◌*ℤ◌, refl, sym, ◌∙◌, ap, inl, inr, arith}
use Rattle.std.specs.Int.{int_div_euclid}
use Rattle.std.proofs.lemmas.Int.{ints}
use Rattle.std.proofs.lemmas.Bool.{cases_eq, eq-eqb, ne_eqb}
use Rattle.std.proofs.lemmas.Nat.{div-add-mod', mod_below, mod-mul-add}
use Rattle.std.proofs.Math.Nat.{lt_of_mul-lt-mul_right, div-eq_of_lt, div-eq_of_lt-le, add-div_right, mul-add-div_right}
use borrow.Author.Differences.{sum_is_lem, product_is, up, down}
use Rattle.bitvec_ptr.specs.Place.{words_met, tail_of}

pub words_met-none : (bits head count : ℕ) → count ≡ 0 → words_met bits head count ≡ 0
words_met-none bits head count e = rw (eq-eqb count 0 e) refl

pub words_met-some : (bits head count : ℕ) → 0 < count → words_met bits head count ≡ (head + count - 1) / bits + 1
words_met-some bits head count h = rw (ne_eqb count 0 (λ e. omega arith)) refl

-- by the words and the rest of what lies before its last place
pub met_split : (bits width head index count : ℕ) → width ≡ bits → index ≡ head → 0 < bits → 0 < count
    → (count - 1) / width + (index + (count - 1) % width) / width + 1 ≡ words_met bits head count
met_split bits width head index count e f some h =
    rw (e, f) (
    let parts = div-add-mod' (count - 1) bits in
    let all : head + count - 1 ≡ (count - 1) / bits * bits + (head + (count - 1) % bits) = omega (arith, parts) in
    sym (words_met-some bits head count h ∙ ap (λ n. n / bits + 1) all
    ∙ ap (λ n. n + 1) (mul-add-div_right some ((count - 1) / bits) (head + (count - 1) % bits))))

pub tail_of-none : (bits head count : ℕ) → count ≡ 0 → tail_of bits head count ≡ head
tail_of-none bits head count e = rw (eq-eqb count 0 e) refl

pub tail_of-some : (bits head count : ℕ) → 0 < count → tail_of bits head count ≡ (head + count - 1) % bits + 1
tail_of-some bits head count h = rw (ne_eqb count 0 (λ e. omega arith)) refl

-- a quotient rounded up
div_up : (bits n : ℕ) → 0 < bits → 0 < n → (n + (bits - 1)) / bits ≡ (n - 1) / bits + 1
div_up bits n some h =
    let parts = div-add-mod' (n - 1) bits in
    let rest = mod_below (n - 1) bits some in
    div-eq_of_lt-le bits (omega arith) (omega arith)

-- the words met and the tail, from what an index tells of `count` bits
pub words_met-from_span : (bits index head count n : ℕ) → 0 < bits → index ≡ head → (count ≡ 0 → n ≡ 0) → (0 < count → n ≡ (index + count + (bits - 1)) / bits) → n ≡ words_met bits head count
words_met-from_span bits index head count n some same empty elements =
    elim (cases_eq count 0) [
      | inl e ↦ empty e ∙ sym (words_met-none bits head count e)
      | inr other ↦ (
          let h : 0 < count = omega arith in
          elements h ∙ ap (λ i. (i + count + (bits - 1)) / bits) same ∙ div_up bits (head + count) some (omega arith) ∙ sym (words_met-some bits head count h))
    ]

pub tail_of-from_span : (bits index head count n : ℕ) → index ≡ head → (count ≡ 0 → n ≡ index) → (0 < count → n ≡ (index + count - 1) % bits + 1) → n ≡ tail_of bits head count
tail_of-from_span bits index head count n same empty tail =
    elim (cases_eq count 0) [
      | inl e ↦ empty e ∙ same ∙ sym (tail_of-none bits head count e)
      | inr other ↦ (let h : 0 < count = omega arith in tail h ∙ ap (λ i. (i + count - 1) % bits + 1) same ∙ sym (tail_of-some bits head count h))
    ]

-- the quotient is the only number that close
close_products : (a b k : ℕ) → a * k < b * k + k → b * k < a * k + k → a ≡ b
close_products a b k p q =
    let l : a * k < (b + 1) * k = omega arith in
    let r : b * k < (a + 1) * k = omega arith in
    let l' : a < b + 1 = lt_of_mul-lt-mul_right k l in
    let r' : b < a + 1 = lt_of_mul-lt-mul_right k r in
    omega arith

quotient_bounds : (a : ℤ) (k : ℕ) → 0 < k → (up (int_div_euclid a (pos k)) * k + down a ≤ down (int_div_euclid a (pos k)) * k + up a) × (down (int_div_euclid a (pos k)) * k + up a < up (int_div_euclid a (pos k)) * k + down a + k)
quotient_bounds (pos a) k h = omega arith
quotient_bounds (negsuc a) k h = omega arith

-- the word in which the place `n` places on from a bit of a word lies
pub floor_place : (bits : ℕ) (word : ℤ) (h n : ℕ) → 0 < bits → int_div_euclid (((word *ℤ pos bits) +ℤ pos h) +ℤ pos n) (pos bits) ≡ word +ℤ pos ((h + n) / bits)
floor_place bits word h n some =
    let z = ((word *ℤ pos bits) +ℤ pos h) +ℤ pos n in
    let q = int_div_euclid z (pos bits) in
    let r = word +ℤ pos ((h + n) / bits) in
    let bounds = quotient_bounds z bits some in
    let parts = div-add-mod' (h + n) bits in
    let rest = mod_below (h + n) bits some in
    let sum = ap (λ x. x * bits) (sum_is_lem word (pos ((h + n) / bits))) in
    let product = product_is word (pos bits) in
    let one = sum_is_lem (word *ℤ pos bits) (pos h) in
    let two = sum_is_lem ((word *ℤ pos bits) +ℤ pos h) (pos n) in
    let same : up q + down r ≡ down q + up r = close_products (up q + down r) (down q + up r) bits (omega (arith, bounds, parts, rest, sum, product, one, two)) (omega (arith, bounds, parts, rest, sum, product, one, two)) in
    omega (arith, ints, same)

-- the words that an interval meets which lies in one word, and which enters a second one
pub met_one : (bits bit count : ℕ) → 0 < count → bit + count ≤ bits → words_met bits bit count ≡ 1
met_one bits bit count h k =
    let inside : bit + count - 1 < bits = omega arith in
    words_met-some bits bit count h ∙ ap (λ n. n + 1) (div-eq_of_lt inside) ∙ omega arith

pub met_more : (bits bit count : ℕ) → bit < bits → bits < bit + count → words_met bits bit count ≡ (count - (bits - bit) - 1) / bits + 2
met_more bits bit count h k =
    let left = count - (bits - bit) - 1 in
    let some : 0 < bits = omega arith in
    let all : bit + count - 1 ≡ left + bits = omega arith in
    let next : (left + bits) / bits ≡ left / bits + 1 = add-div_right left some in
    words_met-some bits bit count (omega arith) ∙ ap (λ n. n / bits + 1) all ∙ ap (λ n. n + 1) next ∙ omega arith

-- how many whole words it meets between its first and its last, and how much of it lies in the last
pub whole_last : (bits width bit index count : ℕ) → width ≡ bits → index ≡ bit → bit < bits → bits < bit + count
    → (bits - bit + ((count - (width - index) - 1) / width * bits + ((count - (width - index) - 1) % width + 1)) ≡ count) × ((count - (width - index) - 1) % width + 1 ≤ bits)
    × (words_met bits bit count ≡ (count - (width - index) - 1) / width + 2)
whole_last bits width bit index count e f h k =
    rw (e, f) (
    let left = count - (bits - bit) - 1 in
    let some : 0 < bits = omega arith in
    let parts = div-add-mod' left bits in
    let rest = mod_below left bits some in
    (omega (arith, parts), omega (arith, rest), met_more bits bit count h k))

-- the index of a place that is the start of a word
pub zero_index : (bits w i v : ℕ) → i < bits → w * bits + i ≡ v * bits → i ≡ 0
zero_index bits w i v h e =
    let some : 0 < bits = omega arith in
    let same : w * bits + i ≡ v * bits + 0 = omega (arith, e) in
    sym (mod-mul-add w bits i h) ∙ ap (λ n. n % bits) same ∙ mod-mul-add v bits 0 some
