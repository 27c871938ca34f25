-- Pointers compare by word and then by bit, and so as their places do.
use Rattle.std.proofs.Common.{◌≡◌, ℕ, ℤ, pos, ◌+◌, ◌*◌, ◌-◌, ◌<◌, ◌≤◌, ◌/◌, ◌+ℤ◌, ◌*ℤ◌, ◌≤ℤ◌, ◌<ℤ◌, Bool, IsTrue, ◌↔◌, Some, refl, sym, ◌∙◌, ap, arith}
use Rattle.std.specs.Ordering.{MatchOrdering, ordering_then, partial_ordering_then, is_some_and, is_lt, is_le, int_cmp, nat_cmp}
use Rattle.std.specs.declared.cmp.Ordering.{Ordering}
use Rattle.std.specs.declared.cmp.Ordering.TheVariants.{Less, Equal, Greater}
use Rattle.std.proofs.lemmas.Cmp.{ranked, int_ranked}
use Rattle.std.proofs.lemmas.Int.{ints}
use Rattle.std.proofs.lemmas.Nat.{div-add-mod'}
use Rattle.std.proofs.Math.Nat.{mul-le-mul_right, lt_of_mul-lt-mul_right}
use borrow.Author.Differences.{sum_is_lem, product_is, up, down}
use Rattle.bitvec_ptr.specs.Place.{Ptr, place_at, place_of}

-- an index that is at most the greatest is below the width
pub bit_below : (bits bit : ℕ) → 8 ≤ bits → bit ≤ bits - 1 → bit < bits
bit_below bits bit h k = omega arith

-- a place over natural numbers
pub place_sum : (bits : ℕ) (word : ℤ) (bit : ℕ) → up (place_at bits word bit) + down word * bits ≡ down (place_at bits word bit) + (up word * bits + bit)
place_sum bits word bit =
    let product = product_is word (pos bits) in
    let sum = sum_is_lem (word *ℤ pos bits) (pos bit) in
    omega (arith, product, sum)

-- a lower word has lower places
pub place_below : (bits : ℕ) (p q : Ptr) → p.bit < bits → p.word <ℤ q.word → place_of bits p <ℤ place_of bits q
place_below bits p q h lower =
    let a = place_sum bits p.word p.bit in
    let b = place_sum bits q.word q.bit in
    let words : up p.word + down q.word + 1 ≤ up q.word + down p.word = omega (arith, ints) in
    let scaled = mul-le-mul_right bits words in
    omega (arith, ints, a, b, scaled)

-- a lower bit of one word has a lower place
pub place_bit : (bits : ℕ) (p q : Ptr) → p.word ≡ q.word → p.bit < q.bit → place_of bits p <ℤ place_of bits q
place_bit bits p q same lower =
    let a = place_sum bits p.word p.bit in
    let b = place_sum bits q.word q.bit in
    let e : up p.word ≡ up q.word = ap up same in
    let d : down p.word ≡ down q.word = ap down same in
    let e' : up p.word * bits ≡ up q.word * bits = ap (λ n. n * bits) e in
    let d' : down p.word * bits ≡ down q.word * bits = ap (λ n. n * bits) d in
    omega (arith, ints, a, b)

-- what the comparison of the words and that of the bits say of the places
pub compared : (bits : ℕ) (p q : Ptr) (a b : Ordering) → p.bit < bits → q.bit < bits → MatchOrdering a (p.word <ℤ q.word) (p.word ≡ q.word) (q.word <ℤ p.word) → MatchOrdering b (p.bit < q.bit) (p.bit ≡ q.bit) (q.bit < p.bit)
    → MatchOrdering (ordering_then a b) (place_of bits p <ℤ place_of bits q) (place_of bits p ≡ place_of bits q) (place_of bits q <ℤ place_of bits p)
compared bits p q Less b h k words by_bit = place_below bits p q h words
compared bits p q Equal Less h k words by_bit = place_bit bits p q words by_bit
compared bits p q Equal Equal h k words by_bit = ap (λ w. place_at bits w p.bit) words ∙ ap (place_at bits q.word) by_bit
compared bits p q Equal Greater h k words by_bit = place_bit bits q p (sym words) by_bit
compared bits p q Greater b h k words by_bit = place_below bits q p k words

-- the comparison of two pointers, of their parts
pub cmp_places : (bits : ℕ) (p q : Ptr) → p.bit < bits → q.bit < bits
    → MatchOrdering (ordering_then (int_cmp p.word q.word) (nat_cmp p.bit q.bit)) (place_of bits p <ℤ place_of bits q) (place_of bits p ≡ place_of bits q) (place_of bits q <ℤ place_of bits p)
cmp_places bits p q h k = compared bits p q (int_cmp p.word q.word) (nat_cmp p.bit q.bit) h k (int_ranked p.word q.word _ refl) (ranked p.bit q.bit _ refl)

same_parts : (bits : ℕ) (p q : Ptr) (a b : Ordering) → p.bit < bits → q.bit < bits → MatchOrdering a (p.word <ℤ q.word) (p.word ≡ q.word) (q.word <ℤ p.word) → MatchOrdering b (p.bit < q.bit) (p.bit ≡ q.bit) (q.bit < p.bit)
    → place_of bits p ≡ place_of bits q → p ≡ q
same_parts bits p q Less b h k words by_bit e = let l = place_below bits p q h words in absurd (omega (arith, ints, l, e))
same_parts bits p q Equal Less h k words by_bit e = let l = place_bit bits p q words by_bit in absurd (omega (arith, ints, l, e))
same_parts bits p q Equal Equal h k words by_bit e = λ i. record { word = words i; bit = by_bit i }
same_parts bits p q Equal Greater h k words by_bit e = let l = place_bit bits q p (sym words) by_bit in absurd (omega (arith, ints, l, e))
same_parts bits p q Greater b h k words by_bit e = let l = place_below bits q p k words in absurd (omega (arith, ints, l, e))

-- pointers at one place are the same
pub place_same : (bits : ℕ) (p q : Ptr) → p.bit < bits → q.bit < bits → place_of bits p ≡ place_of bits q → p ≡ q
place_same bits p q h k e = same_parts bits p q (int_cmp p.word q.word) (nat_cmp p.bit q.bit) h k (int_ranked p.word q.word _ refl) (ranked p.bit q.bit _ refl) e

-- a comparison of two parts and of one that is always equal
pub then_equal : (a b : Ordering) → ordering_then a (ordering_then b Equal) ≡ ordering_then a b
then_equal Less b = refl
then_equal Equal Less = refl
then_equal Equal Equal = refl
then_equal Equal Greater = refl
then_equal Greater b = refl

-- the same by parts that each answer
pub partial_then : (a b : Ordering) → partial_ordering_then (Some a) (partial_ordering_then (Some b) (Some Equal)) ≡ Some (ordering_then a b)
partial_then Less b = refl
partial_then Equal Less = refl
partial_then Equal Equal = refl
partial_then Equal Greater = refl
partial_then Greater b = refl

lt_known : (o : Ordering) (x y : ℤ) → MatchOrdering o (x <ℤ y) (x ≡ y) (y <ℤ x) → IsTrue (is_lt o) ↔ (x <ℤ y)
lt_known Less x y h = (λ t. h, λ l. refl)
lt_known Equal x y h = (λ t. absurd cc, λ l. absurd (omega (arith, ints, h)))
lt_known Greater x y h = (λ t. absurd cc, λ l. absurd (omega (arith, ints, h)))

le_known : (o : Ordering) (x y : ℤ) → MatchOrdering o (x <ℤ y) (x ≡ y) (y <ℤ x) → IsTrue (is_le o) ↔ (x ≤ℤ y)
le_known Less x y h = (λ t. omega (arith, ints, h), λ l. refl)
le_known Equal x y h = (λ t. omega (arith, ints, h), λ l. refl)
le_known Greater x y h = (λ t. absurd cc, λ l. absurd (omega (arith, ints, h)))

-- what `<` and `<=` of pointers say of their places
pub lt_places : (bits : ℕ) (p q : Ptr) (r : Bool) → p.bit < bits → q.bit < bits → r ≡ is_some_and is_lt (partial_ordering_then (Some (int_cmp p.word q.word)) (partial_ordering_then (Some (nat_cmp p.bit q.bit)) (Some Equal)))
    → IsTrue r ↔ (place_of bits p <ℤ place_of bits q)
lt_places bits p q r h k e =
    rw (e ∙ ap (is_some_and is_lt) (partial_then (int_cmp p.word q.word) (nat_cmp p.bit q.bit))) (lt_known _ (place_of bits p) (place_of bits q) (cmp_places bits p q h k))

pub le_places : (bits : ℕ) (p q : Ptr) (r : Bool) → p.bit < bits → q.bit < bits → r ≡ is_some_and is_le (partial_ordering_then (Some (int_cmp p.word q.word)) (partial_ordering_then (Some (nat_cmp p.bit q.bit)) (Some Equal)))
    → IsTrue r ↔ (place_of bits p ≤ℤ place_of bits q)
le_places bits p q r h k e =
    rw (e ∙ ap (is_some_and is_le) (partial_then (int_cmp p.word q.word) (nat_cmp p.bit q.bit))) (le_known _ (place_of bits p) (place_of bits q) (cmp_places bits p q h k))

-- a place up to that of a pointer has a word up to the pointer's
pub word_inside : (bits n : ℕ) (p q : Ptr) → 0 < bits → q.bit < bits → (place_of bits p +ℤ pos n) ≤ℤ place_of bits q → (p.word +ℤ pos ((p.bit + n) / bits)) ≤ℤ q.word
word_inside bits n p q some h inside =
    let a = place_sum bits p.word p.bit in
    let b = place_sum bits q.word q.bit in
    let parts = div-add-mod' (p.bit + n) bits in
    let scaled : (up p.word + (p.bit + n) / bits + down q.word) * bits < (up q.word + down p.word + 1) * bits = omega (arith, ints, a, b, parts) in
    let words = lt_of_mul-lt-mul_right bits scaled in
    omega (arith, ints, words)
