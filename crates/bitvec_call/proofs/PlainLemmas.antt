-- Ranges that have no bit in common.
use Rattle.std.proofs.Common.{ℕ, ◌+◌, ◌<◌, ◌≤◌, inl, inr, arith}
use Rattle.std.specs.Prelude.{pos}
use Rattle.std.proofs.lemmas.Bool.{cases_lt}
use Rattle.std.proofs.lemmas.Int.{ints}
use Rattle.std.proofs.lemmas.Nat.{div-add-mod'}
use Rattle.bitvec.specs.Span.{Covers, AreDisjoint, span_at}

-- the places of a range are those from its first bit on
pub range_covers : (bits start count place : ℕ) → start ≤ place → place < start + count → Covers bits (span_at bits start count) (pos place)
range_covers bits start count place from below =
    let whole = div-add-mod' start bits in
    (omega (arith, ints, whole, from), omega (arith, ints, whole, below))

-- ranges that have bits, and none in common: one ends before the other starts
pub ends_before : (bits start count other_start other_count : ℕ) → 0 < count → 0 < other_count → AreDisjoint bits (span_at bits start count) (span_at bits other_start other_count)
    → other_start < start + count → other_start + other_count ≤ start
ends_before bits start count other_start other_count some others apart later =
    elim (cases_lt start (other_start + other_count)) [
      | inl inside ↦ elim (cases_lt start other_start) [
        | inl before ↦ absurd (apart (pos other_start) (range_covers bits start count other_start (omega arith) later) (range_covers bits other_start other_count other_start (omega arith) (omega arith)))
        | inr behind ↦ absurd (apart (pos start) (range_covers bits start count start (omega arith) (omega arith)) (range_covers bits other_start other_count start behind inside))
      ]
      | inr past ↦ past
    ]

-- a range that ends before another starts has no bit in common with it
pub apart_before : (bits start count other_start other_count : ℕ) → start + count ≤ other_start → AreDisjoint bits (span_at bits start count) (span_at bits other_start other_count)
apart_before bits start count other_start other_count h place here there =
    absurd (omega (arith, ints, h, here.1, there.0, div-add-mod' start bits, div-add-mod' other_start bits))
