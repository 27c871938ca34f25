-- The ends of a range after its first or its last pointer was taken.
use Rattle.std.proofs.Common.{◌≡◌, ℕ, pos, ◌+◌, ◌<◌, ◌≤◌, ◌+ℤ◌, ◌≤ℤ◌, Option, Some, None, MatchOption, ◌∙◌, sym, ap, arith}
use Rattle.std.proofs.lemmas.Int.{ints}
use Rattle.bitvec_ptr.specs.Place.{Ptr, place_of}
use Rattle.bitvec_ptr.specs.PtrRange.{PtrRange, count_of}
use Rattle.bitvec_ptr.proofs.PlaceOrder.{place_same}
use Rattle.bitvec_ptr.proofs.RangeLemmas.{count_gap}

-- what a call for the first pointer gives
abbrev FirstGiven : {B : Type 0} → ℕ → (B → Ptr) → PtrRange → PtrRange → Option B → Type 0
FirstGiven bits view old new r =
    MatchOption r ((count_of bits old ≤ 0) × (new.start ≡ old.end)) (λ p. (0 < count_of bits old) × (place_of bits (view p) ≡ place_of bits old.start +ℤ pos 0) × (place_of bits new.start ≡ place_of bits (view p) +ℤ pos 1))

-- what a call for the last pointer gives
abbrev LastGiven : {B : Type 0} → ℕ → (B → Ptr) → PtrRange → PtrRange → Option B → Type 0
LastGiven bits view old new r =
    MatchOption r ((count_of bits old ≤ 0) × (new.end ≡ old.start)) (λ p. (0 < count_of bits old) × (place_of bits old.end ≡ place_of bits (view p) +ℤ pos (0 + 1)) × (new.end ≡ view p))

module _ {B : Type 0} (bits : ℕ) (view : B → Ptr) (old new : PtrRange) where
  -- where none was left, both ends were at one pointer
  ends_are_one : place_of bits old.start ≤ℤ place_of bits old.end → old.start.bit < bits → old.end.bit < bits → count_of bits old ≤ 0 → old.end ≡ old.start
  ends_are_one le h k none =
      let apart = count_gap bits old le in
      place_same bits old.end old.start k h (omega (arith, ints, apart, none))

  -- the start after the first pointer was taken: past it, and as it was where there was none
  pub start_after : (r : Option B) → place_of bits old.start ≤ℤ place_of bits old.end → old.start.bit < bits → old.end.bit < bits → FirstGiven bits view old new r
      → MatchOption r (new.start ≡ old.start) (λ p. place_of bits new.start ≡ place_of bits (view p) +ℤ pos 1)
  start_after None le h k given = given.1 ∙ ends_are_one le h k given.0
  start_after (Some p) le h k given = given.2

  -- after the only pointer was taken, the start is the end
  pub start_after_last : (r : Option B) → place_of bits old.start ≤ℤ place_of bits old.end → new.start.bit < bits → old.end.bit < bits → FirstGiven bits view old new r → count_of bits old ≡ 1 → new.start ≡ old.end
  start_after_last None le h k given one = given.1
  start_after_last (Some p) le h k given one =
      let apart = count_gap bits old le in
      place_same bits new.start old.end h k (omega (arith, ints, apart, one, given.1, given.2))

  -- the same from the back
  pub end_after : (r : Option B) → place_of bits old.start ≤ℤ place_of bits old.end → old.start.bit < bits → old.end.bit < bits → LastGiven bits view old new r
      → MatchOption r (new.end ≡ old.end) (λ p. new.end ≡ view p)
  end_after None le h k given = given.1 ∙ sym (ends_are_one le h k given.0)
  end_after (Some p) le h k given = given.2

  pub end_after_last : (r : Option B) → place_of bits old.start ≤ℤ place_of bits old.end → old.start.bit < bits → new.end.bit < bits → LastGiven bits view old new r → count_of bits old ≡ 1 → new.end ≡ old.start
  end_after_last None le h k given one = given.1
  end_after_last (Some p) le h k given one =
      let apart = count_gap bits old le in
      let at : place_of bits new.end ≡ place_of bits (view p) = ap (place_of bits) given.2 in
      place_same bits new.end old.start k h (omega (arith, ints, apart, one, given.1, at))
