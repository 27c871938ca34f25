-- When no place lies in two spans.
use Rattle.std.proofs.Common.{ℕ, pos, ◌≡◌, ◌<◌, ◌+ℤ◌, ◌≤ℤ◌, ◌<ℤ◌, arith}
use Rattle.std.proofs.lemmas.Int.{ints, by_lt_z}
use Rattle.bitvec_ptr.specs.Place.{place_at}
use Rattle.bitvec_span.specs.Span.{Span, AreDisjoint}

-- a span of no bits has no place
pub disjoint-none : (bits : ℕ) (a b : Span) → a.len ≡ 0 → AreDisjoint bits a b
disjoint-none bits a b e place here there = absurd (omega (arith, ints, e, here.0, here.1))

pub disjoint-sym : (bits : ℕ) (a b : Span) → AreDisjoint bits a b → AreDisjoint bits b a
disjoint-sym bits a b h place here there = h place there here

-- a span that ends before the other starts
pub disjoint-before : (bits : ℕ) (a b : Span) → (place_at bits a.word a.head +ℤ pos a.len) ≤ℤ place_at bits b.word b.head → AreDisjoint bits a b
disjoint-before bits a b h place here there = absurd (omega (arith, ints, h, here.1, there.0))

-- of two disjoint spans that have bits, one ends before the other starts
pub disjoint-after : (bits : ℕ) (a b : Span) → 0 < a.len → 0 < b.len → AreDisjoint bits a b → place_at bits b.word b.head <ℤ (place_at bits a.word a.head +ℤ pos a.len)
    → (place_at bits b.word b.head +ℤ pos b.len) ≤ℤ place_at bits a.word a.head
disjoint-after bits a b m n h meets =
    let p = place_at bits a.word a.head in
    let q = place_at bits b.word b.head in
    by_lt_z p (q +ℤ pos b.len)
    (λ (inside : p <ℤ (q +ℤ pos b.len)). by_lt_z q p
    (λ (later : q <ℤ p). absurd (h p (omega (arith, ints), omega (arith, ints, m)) (omega (arith, ints, later), inside)))
    (λ (later : p ≤ℤ q). absurd (h q (later, meets) (omega (arith, ints), omega (arith, ints, n)))))
    (λ (past : (q +ℤ pos b.len) ≤ℤ p). past)
