-- Blocks that a search finds.
use Rattle.std.proofs.Common.{◌≡◌, ℕ, ◌+◌, ◌-◌, ◌<◌, ◌≤◌, Bool, true, false, true≢false, not, List, length, drop, refl, sym, ap, ◌∙◌, arith}
use Rattle.std.specs.Prelude.{Option, None, Some, MatchOption, slice_range, IsTrue, ◌↔◌}
use Rattle.std.proofs.lemmas.List.{get_or-take, get_or-drop}
use Rattle.bitvec.specs.Span.{element}
use Rattle.bitvec_slice.specs.Bits.{AreFree, AllBetween, IsFirstBetween}
use Rattle.freemap.specs.Blocks.{IsLowest}

-- a block is free where its truth value is false
one_free : (used : List Bool) (at : ℕ) → at < length used → element used at ≡ false → AreFree used at 1
one_free used at inside off = (omega (arith, inside), λ j a b. ap (element used) (let here : j ≡ at = omega (arith, a, b) in here) ∙ off)

not_one : (used : List Bool) (at : ℕ) → element used at ≡ true → ¬ AreFree used at 1
not_one used at on free = true≢false (sym on ∙ free.1 at (omega arith) (omega arith))

-- the first false element from an index on is the lowest free block
pub lowest_from : (used : List Bool) (from : ℕ) (o : Option ℕ) → MatchOption o (AllBetween true used from (length used)) (IsFirstBetween false used from (length used))
    → IsLowest (λ at. (from ≤ at) × AreFree used at 1) o
lowest_from used from None full = λ at free. (let room = free.1.0 in not_one used at (full at free.0 (omega (arith, room))) free.1)
lowest_from used from (Some at) first =
    ((first.0, one_free used at first.1 first.2), λ k before free. not_one used k (first.3 k free.0 before) free.1)

-- an element of a part of a list
pub range_element : (used part : List Bool) (from end : ℕ) → part ≡ slice_range used from end → (j : ℕ) → j < end - from → element part j ≡ element used (from + j)
range_element used part from end is j before = ap (λ us. element us j) is ∙ get_or-take (end - from) (drop from used) j false before ∙ get_or-drop from used j false

-- that some block is in use, turned over
pub turned : (some : Bool) (P : Type 0) → (some ≡ false) ↔ P → IsTrue (not some) ↔ P
turned true P shows = (λ no. absurd (true≢false (sym no)), λ p. sym (shows.1 p))
turned false P shows = (λ yes. shows.0 refl, λ p. refl)
