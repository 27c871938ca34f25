-- A list with a stretch replaced: what stands in it, and beside it.
use Rattle.std.proofs.Common.{◌≡◌, ◌⊎◌, inl, inr, ℕ, ◌+◌, ◌-◌, ◌<◌, ◌≤◌, Bool, false, List, ◌++◌, length, take, drop, replicate, sym, ap, subst, ◌∙◌, arith, append_assoc, length-append}
use Rattle.std.specs.Prelude.{slice_range}
use Rattle.std.proofs.lemmas.Bool.{cases_lt}
use Rattle.std.proofs.lemmas.List.{length-take-le, length-drop, length-replicate, take_at, drop_at, take-append-le, drop-append-le, drop-take, take-take, drop-drop, get_or-take, get_or-drop, get_or_append_left, get_or-append_right, get_or-replicate}
use Rattle.bitvec.specs.Span.{Span, BecomesList, element, list_of}
use Rattle.bitvec.proofs.BecomesLemmas.{becomes-same}
use Rattle.bitvec.proofs.PartLemmas.{length-list_of}
use Rattle.bitvec_slice.specs.Bits.{AllBetween}
use Rattle.bitvec_slice.specs.Ranges.{with_range, KeepsBeside, KeepsStretches}

-- elements from a part of a list on
part_element : (n : ℕ) (xs ys : List Bool) (j : ℕ) → drop n xs ≡ drop n ys → n ≤ j → element xs j ≡ element ys j
part_element n xs ys j e from =
    let past : n + (j - n) ≡ j = omega (arith, from) in
    let near = sym (get_or-drop n xs (j - n) false) ∙ ap (λ (us : List Bool). element us (j - n)) e ∙ get_or-drop n ys (j - n) false in
    subst (λ i. element xs i ≡ element ys i) past near

module _ (xs ys : List Bool) (from to : ℕ) (rises : from ≤ to) (inside : to ≤ length xs) (long : length ys ≡ to - from) where
  front_long : length (take from xs) ≡ from
  front_long = length-take-le from xs (omega arith)

  grouped : with_range xs from to ys ≡ take from xs ++ (ys ++ drop to xs)
  grouped = append_assoc (take from xs) ys (drop to xs)

  -- the list is as long as before
  pub range_length : length (with_range xs from to ys) ≡ length xs
  range_length = length-append (take from xs ++ ys) (drop to xs) ∙ omega (arith, length-append (take from xs) ys, front_long, long, length-drop to xs, rises, inside)

  pub range_behind : drop to (with_range xs from to ys) ≡ drop to xs
  range_behind =
      let long_both : length (take from xs ++ ys) ≡ to = length-append (take from xs) ys ∙ omega (arith, front_long, long, rises) in
      drop_at (take from xs ++ ys) (drop to xs) to long_both

  -- the list has the stretch
  pub range_within : slice_range (with_range xs from to ys) from to ≡ ys
  range_within = ap (λ us. slice_range us from to) grouped ∙ ap (take (to - from)) (drop_at (take from xs) (ys ++ drop to xs) from front_long) ∙ take_at ys (drop to xs) (to - from) long

  before : (low high : ℕ) → low ≤ high → high ≤ from → slice_range (with_range xs from to ys) low high ≡ slice_range xs low high
  before low high order apart =
      let rest : List Bool = ys ++ drop to xs in
      let some : from ≡ low + (from - low) = omega arith in
      let shown : drop low (take from xs) ≡ take (from - low) (drop low xs) = ap (λ n. drop low (take n xs)) some ∙ drop-take low (from - low) xs in
      let room : high - low ≤ length (drop low (take from xs)) = omega (arith, length-drop low (take from xs), front_long) in
      ap (λ us. slice_range us low high) grouped
      ∙ ap (take (high - low)) (drop-append-le low (take from xs) rest (omega (arith, front_long)))
      ∙ take-append-le (high - low) (drop low (take from xs)) rest room
      ∙ ap (take (high - low)) shown
      ∙ take-take (high - low) (from - low) (drop low xs) (omega arith)

  -- each stretch beside it is as before
  pub range_beside : KeepsStretches from to xs (with_range xs from to ys)
  range_beside low high (inl apart) =
      elim (cases_lt high low) [
        | inl none ↦ (
            let zero : high - low ≡ 0 = omega (arith, none) in
            ap (λ n. take n (drop low (with_range xs from to ys))) zero ∙ sym (ap (λ n. take n (drop low xs)) zero))
        | inr order ↦ before low high order apart
      ]
  range_beside low high (inr apart) =
      let past : to + (low - to) ≡ low = omega (arith, apart) in
      let same : drop low (with_range xs from to ys) ≡ drop low xs =
      subst (λ n. drop n (with_range xs from to ys) ≡ drop n xs) past (sym (drop-drop (low - to) to (with_range xs from to ys)) ∙ ap (drop (low - to)) range_behind ∙ drop-drop (low - to) to xs) in
      ap (take (high - low)) same

  -- each element beside it is as before
  pub range_kept : (j : ℕ) → (j < from) ⊎ (to ≤ j) → element (with_range xs from to ys) j ≡ element xs j
  range_kept j (inl first) = ap (λ us. element us j) grouped ∙ get_or_append_left (take from xs) (ys ++ drop to xs) false j (omega (arith, front_long)) ∙ get_or-take from xs j false first
  range_kept j (inr last) = part_element to (with_range xs from to ys) xs j range_behind last

  -- the elements in it are those of the stretch
  pub range_new : (j : ℕ) → from ≤ j → j < to → element (with_range xs from to ys) j ≡ element ys (j - from)
  range_new j first last =
      ap (λ us. element us j) grouped
      ∙ get_or-append_right (take from xs) (ys ++ drop to xs) from j false front_long first
      ∙ get_or_append_left ys (drop to xs) false (j - from) (omega (arith, long))

-- the stretch of a list between `from` and `to` has `to - from` elements
pub range_long : (xs : List Bool) (from to : ℕ) → from ≤ to → to ≤ length xs → length (slice_range xs from to) ≡ to - from
range_long xs from to rises inside = length-take-le (to - from) (drop from xs) (omega (arith, length-drop from xs))

-- an edit of a span that replaces a stretch of its list by another of its length keeps each stretch beside it
module _ (bits : ℕ) (at : ℕ → ℕ) (span : Span) (old new : List ℕ) (from to : ℕ) where
  pub range_edited : (given ys : List Bool) → given ≡ ys → from ≤ to → to ≤ span.len → length ys ≡ to - from
      → BecomesList bits at span old new (with_range (list_of bits at span old) from to given)
      → BecomesList bits at span old new (with_range (list_of bits at span old) from to ys) × KeepsStretches from to (list_of bits at span old) (list_of bits at span new)
  range_edited given ys e rises inside long edit =
      let xs : List Bool = list_of bits at span old in
      let whole : to ≤ length xs = omega (arith, inside, length-list_of bits at span old) in
      let same = becomes-same bits at span old new _ _ (ap (with_range xs from to) e) edit in
      (same, λ low high apart. ap (λ us. slice_range us low high) same.list ∙ range_beside xs ys from to rises whole long low high apart)

-- the stretch has one value
module _ (xs : List Bool) (from to : ℕ) (bit : Bool) (rises : from ≤ to) (inside : to ≤ length xs) where
  pub filled_new : (j : ℕ) → from ≤ j → j < to → element (take from xs ++ replicate (to - from) bit ++ drop to xs) j ≡ bit
  filled_new j first last = range_new xs (replicate (to - from) bit) from to rises inside (length-replicate (to - from) bit) j first last ∙ get_or-replicate (to - from) (j - from) bit false (omega arith)

  pub filled_kept : (j : ℕ) → (j < from) ⊎ (to ≤ j) → element (take from xs ++ replicate (to - from) bit ++ drop to xs) j ≡ element xs j
  filled_kept j apart = range_kept xs (replicate (to - from) bit) from to rises inside (length-replicate (to - from) bit) j apart

-- a list of which a stretch was given one value: each element there has it, and each beside it is as before
module _ (xs zs : List Bool) (from to : ℕ) (bit : Bool) (rises : from ≤ to) (inside : to ≤ length xs) (is : zs ≡ take from xs ++ replicate (to - from) bit ++ drop to xs) where
  pub fill_shows : AllBetween bit zs from to
  fill_shows j first last = ap (λ us. element us j) is ∙ filled_new xs from to bit rises inside j first last

  pub fill_keeps : KeepsBeside from to xs zs
  fill_keeps j apart = ap (λ us. element us j) is ∙ filled_kept xs from to bit rises inside j apart
