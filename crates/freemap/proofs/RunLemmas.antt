-- Runs of free blocks.
use Rattle.std.proofs.Common.{◌≡◌, inl, inr, ℕ, max, ◌+◌, ◌-◌, ◌<◌, ◌≤◌, Bool, true, false, true≢false, List, length, sym, ap, ◌∙◌, subst, arith}
use Rattle.std.proofs.lemmas.Bool.{cases_lt}
use Rattle.std.specs.Ordering.{ord_max, nat_cmp}
use Rattle.std.proofs.lemmas.Bool.Decides.{nat_tests}
use Rattle.bitvec.specs.Span.{element}
use Rattle.bitvec_slice.specs.Bits.{AreFree, AllBetween, IsFirstBetween}
use Rattle.freemap.specs.Blocks.{IsLargestRun}
use Rattle.freemap.specs.FreeRuns.{IsEnd, IsNextRun}

-- it is the first block in use
pub end_is : (used : List Bool) (at end : ℕ) → element used at ≡ false → IsFirstBetween true used at (length used) end → IsEnd used at end
end_is used at end off first =
    let from = first.0 in
    record {
      some = elim (cases_lt at end) [
        | inl later ↦ later
        | inr here ↦ (let same : at ≡ end = omega (arith, from, here) in absurd (true≢false (sym first.2 ∙ ap (element used) (sym same) ∙ off)))
      ];
      inside = omega (arith, first.1);
      free = first.3;
      ends = λ _. first.2;
    }

-- or the end of the map
pub end_is_all : (used : List Bool) (at : ℕ) → at < length used → AllBetween false used at (length used) → IsEnd used at (length used)
end_is_all used at inside free = record {
  some = inside;
  inside = omega arith;
  free = free;
  ends = λ h. absurd (omega (arith, h));
}

-- the run from the first free block on
pub run_is : (used : List Bool) (from at end : ℕ) → IsFirstBetween false used from (length used) at → IsEnd used at end → IsNextRun used from at (end - at)
run_is used from at end first last =
    let some = last.some in
    let whole : at + (end - at) ≡ end = omega (arith, some) in
    record {
      later = first.0;
      passed = first.3;
      some = omega (arith, some);
      free = (omega (arith, whole, last.inside), λ j a b. last.free j a (omega (arith, whole, b)));
      ends = λ h. subst (λ n. element used n ≡ true) (sym whole) (last.ends (omega (arith, whole, h)));
    }

-- the largest run of those that begin before a block, from which on no run goes on
pub record IsMost (used : List Bool) (from most : ℕ) : Type 0 where
  pub inside : from ≤ length used
  pub edge : 0 < from → from < length used → element used from ≡ true
  pub reached : (at : ℕ) × AreFree used at most
  pub all : (at count : ℕ) → at < from → AreFree used at count → count ≤ most

-- a run that begins at a block in use has none
none_here : (used : List Bool) (at count : ℕ) → element used at ≡ true → AreFree used at count → count ≡ 0
none_here used at count on free =
    elim (cases_lt 0 count) [
      | inl some ↦ absurd (true≢false (sym on ∙ free.1 at (omega arith) (omega (arith, some))))
      | inr none ↦ omega (arith, none)
    ]

-- a run that begins before a block and does not go on there ends before it
ends_before : (used : List Bool) (at count end : ℕ) → at < end → (end < length used → element used end ≡ true) → end ≤ length used → AreFree used at count → at + count ≤ end
ends_before used at count end before ends inside free =
    elim (cases_lt end (at + count)) [
      | inl past ↦ (let room = free.0 in absurd (true≢false (sym (ends (omega (arith, past, room))) ∙ free.1 end (omega (arith, before)) past)))
      | inr within ↦ within
    ]

module _ (used : List Bool) (from most : ℕ) (was : IsMost used from most) where
  pub most_all : AllBetween true used from (length used) → IsLargestRun used most
  most_all full = (
    was.reached,
    λ at count free. elim (cases_lt at from) [
      | inl before ↦ was.all at count before free
      | inr later ↦ (elim (cases_lt at (length used)) [
        | inl inside ↦ (let none = none_here used at count (full at later inside) free in omega (arith, none))
        | inr past ↦ (let room = free.0 in omega (arith, room, past))
      ])
    ],
  )

  module _ (at count : ℕ) (next : IsNextRun used from at count) where
    larger : (n m : ℕ) → (at : ℕ) × AreFree used at n → AreFree used at m → (start : ℕ) × AreFree used start (max n m)
    larger n m (start, free) run =
        elim (cases_lt n m) [
          | inl less ↦ (let e : max n m ≡ m = omega (arith, less) in (at, subst (λ k. AreFree used at k) (sym e) run))
          | inr more ↦ (let e : max n m ≡ n = omega (arith, more) in (start, subst (λ k. AreFree used start k) (sym e) free))
        ]

    pub most_more : IsMost used (at + count) (max most count)
    most_more = record {
      inside = next.free.0;
      edge = λ _ h. next.ends h;
      reached = larger most count was.reached next.free;
      all = λ start n before free. elim (cases_lt start from) [
        | inl first ↦ (let small = was.all start n first free in omega (arith, small))
        | inr later ↦ (elim (cases_lt start at) [
          | inl passed ↦ (let none = none_here used start n (next.passed start later passed) free in omega (arith, none))
          | inr inside ↦ (let ends = ends_before used start n (at + count) before next.ends next.free.0 free in omega (arith, ends, inside))
        ])
      ];
    }

-- the larger of two numbers, by their order
pub ord_max-is : (n m : ℕ) → ord_max nat_cmp n m ≡ max n m
ord_max-is n m = grind (arith, nat_tests)
