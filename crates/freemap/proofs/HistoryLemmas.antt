-- Who owns which blocks, as calls change it.
use Rattle.std.proofs.Common.{◌≡◌, ◌⊎◌, inl, inr, ℕ, ◌+◌, ◌<◌, ◌≤◌, Bool, true, false, true≢false, List, [], ◌∷◌, ◌++◌, length, refl, sym, ap, ◌∙◌, subst, arith}
use Rattle.std.proofs.lemmas.Bool.{cases_lt}
use Rattle.bitvec.specs.Span.{element, with_filled}
use Rattle.bitvec_slice.specs.Bits.{AreFree}
use Rattle.bitvec_slice.proofs.EditRangeLemmas.{filled_new, filled_kept}
use Rattle.freemap.specs.Blocks.{AreInUse}
use Rattle.freemap.specs.History.{HoldsBlock, IsHeld, AreDisjointRanges, Owns, Call, HandsOut, TakesBack, IsTransition, HistoriesKeepOwners}

-- a range holds a block, or the block is beside it
beside : (at count block : ℕ) → HoldsBlock (at, count) block ⊎ ((block < at) ⊎ (at + count ≤ block))
beside at count block =
    elim (cases_lt block at) [
      | inl first ↦ inr (inl first)
      | inr from ↦ (elim (cases_lt block (at + count)) [
        | inl inside ↦ inl (from, inside)
        | inr last ↦ inr (inr last)
      ])
    ]

-- blocks of which those of a range were put in use, or made free
module _ (old new : List Bool) (at count : ℕ) (used : Bool)
    (set : (j : ℕ) → at ≤ j → j < at + count → element new j ≡ used)
    (kept : (j : ℕ) → (j < at) ⊎ (at + count ≤ j) → element new j ≡ element old j) where
  -- those of a range that were free are one more live range
  handed : used ≡ true → ((j : ℕ) → at ≤ j → j < at + count → element old j ≡ false) → (live : List (ℕ × ℕ)) → Owns old live → Owns new ((at, count) ∷ live)
  handed is free live owns = record {
    apart = (λ block inside held. true≢false (sym ((owns.held block).1 held) ∙ free block inside.0 inside.1), owns.apart);
    held = λ block. elim (beside at count block) [
      | inl inside ↦ (λ on. inl inside, λ held. set block inside.0 inside.1 ∙ is)
      | inr outside ↦ (
        λ on. inr ((owns.held block).0 (sym (kept block outside) ∙ on)),
        λ held. kept block outside ∙ (owns.held block).1 (later block outside live held),
      )
    ];
  } where
    later : (block : ℕ) → (block < at) ⊎ (at + count ≤ block) → (live : List (ℕ × ℕ)) → IsHeld ((at, count) ∷ live) block → IsHeld live block
    later block (inl first) live (inl inside) = absurd (omega (arith, inside.0, first))
    later block (inr last) live (inl inside) = absurd (omega (arith, inside.1, last))
    later block outside live (inr held) = held

-- a range among others holds a block, or one of the others does
split : (before later : List (ℕ × ℕ)) (range : ℕ × ℕ) (block : ℕ) → IsHeld (before ++ range ∷ later) block → HoldsBlock range block ⊎ IsHeld (before ++ later) block
split [] later range block held = held
split (other ∷ before) later range block (inl inside) = inr (inl inside)
split (other ∷ before) later range block (inr held) =
    elim (split before later range block held) [
      | inl inside ↦ inl inside
      | inr rest ↦ inr (inr rest)
    ]

joined : (before later : List (ℕ × ℕ)) (range : ℕ × ℕ) (block : ℕ) → HoldsBlock range block ⊎ IsHeld (before ++ later) block → IsHeld (before ++ range ∷ later) block
joined [] later range block held = held
joined (other ∷ before) later range block (inl inside) = inr (joined before later range block (inl inside))
joined (other ∷ before) later range block (inr (inl inside)) = inl inside
joined (other ∷ before) later range block (inr (inr held)) = inr (joined before later range block (inr held))

-- the others are apart from one another, and from it
rest_apart : (before later : List (ℕ × ℕ)) (range : ℕ × ℕ) → AreDisjointRanges (before ++ range ∷ later) → AreDisjointRanges (before ++ later)
rest_apart [] later range apart = apart.1
rest_apart (other ∷ before) later range apart =
    (λ block inside held. apart.0 block inside (joined before later range block (inr held)), rest_apart before later range apart.1)

range_apart : (before later : List (ℕ × ℕ)) (range : ℕ × ℕ) → AreDisjointRanges (before ++ range ∷ later) → (block : ℕ) → HoldsBlock range block → ¬ IsHeld (before ++ later) block
range_apart [] later range apart block inside held = apart.0 block inside held
range_apart (other ∷ before) later range apart block inside (inl first) = apart.0 block first (joined before later range block (inl inside))
range_apart (other ∷ before) later range apart block inside (inr held) = range_apart before later range apart.1 block inside held

module _ (old new : List Bool) (at count : ℕ)
    (set : (j : ℕ) → at ≤ j → j < at + count → element new j ≡ false)
    (kept : (j : ℕ) → (j < at) ⊎ (at + count ≤ j) → element new j ≡ element old j) where
  -- a live range that was made free is none any more, and the others hold what is in use
  given_back : (before later : List (ℕ × ℕ)) → Owns old (before ++ (at, count) ∷ later) → Owns new (before ++ later)
  given_back before later owns = record {
    apart = rest_apart before later (at, count) owns.apart;
    held = λ block. elim (beside at count block) [
      | inl inside ↦ (
        λ on. absurd (true≢false (sym on ∙ set block inside.0 inside.1)),
        λ held. absurd (range_apart before later (at, count) owns.apart block inside held),
      )
      | inr outside ↦ (
        λ on. other outside (split before later (at, count) block ((owns.held block).0 (sym (kept block outside) ∙ on))),
        λ held. kept block outside ∙ (owns.held block).1 (joined before later (at, count) block (inr held)),
      )
    ];
  } where
    other : {block : ℕ} → (block < at) ⊎ (at + count ≤ block) → HoldsBlock (at, count) block ⊎ IsHeld (before ++ later) block → IsHeld (before ++ later) block
    other (inl first) (inl inside) = absurd (omega (arith, inside.0, first))
    other (inr last) (inl inside) = absurd (omega (arith, inside.1, last))
    other outside (inr held) = held

-- blocks that were free are handed out
pub owned_more : (old new : List Bool) (at count : ℕ) → new ≡ with_filled old at (at + count) true → AreFree old at count → (live : List (ℕ × ℕ)) → Owns old live → Owns new ((at, count) ∷ live)
owned_more old new at count is free =
    let rises : at ≤ at + count = omega arith in
    let set = λ (j : ℕ) (first : at ≤ j) (last : j < at + count). ap (λ us. element us j) is ∙ filled_new old at (at + count) true rises free.0 j first last in
    let kept = λ (j : ℕ) (apart : (j < at) ⊎ (at + count ≤ j)). ap (λ us. element us j) is ∙ filled_kept old at (at + count) true rises free.0 j apart in
    handed old new at count true set kept refl free.1

-- a live range is taken back
pub owned_less : (old new : List Bool) (at count : ℕ) → new ≡ with_filled old at (at + count) false → at + count ≤ length old
    → (before later : List (ℕ × ℕ)) → Owns old (before ++ (at, count) ∷ later) → Owns new (before ++ later)
owned_less old new at count is inside =
    let rises : at ≤ at + count = omega arith in
    let set = λ (j : ℕ) (first : at ≤ j) (last : j < at + count). ap (λ us. element us j) is ∙ filled_new old at (at + count) false rises inside j first last in
    let kept = λ (j : ℕ) (apart : (j < at) ⊎ (at + count ≤ j)). ap (λ us. element us j) is ∙ filled_kept old at (at + count) false rises inside j apart in
    given_back old new at count set kept

-- blocks that were in use are so after others were handed out
pub still_in_use : (old new : List Bool) (at count other many : ℕ) → new ≡ with_filled old other (other + many) true → other + many ≤ length old → length new ≡ length old
    → AreInUse old at count → AreInUse new at count
still_in_use old new at count other many is inside same was = (
  omega (arith, same, was.0),
  λ k first last. elim (beside other many k) [
    | inl in_it ↦ ap (λ us. element us k) is ∙ filled_new old other (other + many) true (omega arith) inside k in_it.0 in_it.1
    | inr outside ↦ ap (λ us. element us k) is ∙ filled_kept old other (other + many) true (omega arith) inside k outside ∙ was.1 k first last
  ],
)

-- what is handed out is in use
pub handed_out : (old new : List Bool) (at count : ℕ) → new ≡ with_filled old at (at + count) true → at + count ≤ length old → length new ≡ length old → AreInUse new at count
handed_out old new at count is inside same = (
  omega (arith, inside, same),
  λ k first last. ap (λ us. element us k) is ∙ filled_new old at (at + count) true (omega arith) inside k first last,
)

-- what is taken back is free
pub taken_back : (old new : List Bool) (at count : ℕ) → new ≡ with_filled old at (at + count) false → at + count ≤ length old → length new ≡ length old → AreFree new at count
taken_back old new at count is inside same = (
  omega (arith, inside, same),
  λ k first last. ap (λ us. element us k) is ∙ filled_new old at (at + count) false (omega arith) inside k first last,
)

-- one call
call_keeps : (call : Call) (used after : List Bool) (live left : List (ℕ × ℕ)) → Owns used live → IsTransition call used live after left → Owns after left
call_keeps (HandsOut at count) used after live left owns is = subst (Owns after) (sym is.2) (owned_more used after at count is.1 is.0 live owns)
call_keeps (TakesBack at count) used after live left owns is =
    let before = is.2.0 in
    let later = is.2.1 in
    subst (Owns after) (sym is.2.3) (owned_less used after at count is.1 is.0.0 before later (subst (Owns used) is.2.2 owns))

-- any list of calls
pub histories_keep_owners : HistoriesKeepOwners
histories_keep_owners [] used after live left owns is = subst (λ us. Owns us left) (sym is.0) (subst (Owns used) (sym is.1) owns)
histories_keep_owners (call ∷ calls) used after live left owns is =
    histories_keep_owners calls is.0 after is.1 left (call_keeps call used is.0 live is.1 owns is.2) is.3
