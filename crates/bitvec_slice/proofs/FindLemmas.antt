-- What is found in a list, and in which word of a span. `bits` is the width of a word.
use Rattle.std.proofs.Common.{◌≡◌, ℕ, ◌+◌, ◌-◌, ◌*◌, ◌/◌, ◌<◌, ◌≤◌, ◌&&◌, Bool, true, false, true≢false, not, nat_le, List, [], ◌∷◌, length, slice_get, Option, Some, None, MatchOption, is_some, refl, sym, ap, subst, ◌∙◌, inl, inr, arith}
use Rattle.std.specs.Bool.{beq}
use Rattle.std.specs.Prelude.{◌↔◌, IsTrue}
use Rattle.std.proofs.lemmas.Bool.{cases_lt, le-leb}
use Rattle.std.proofs.lemmas.Nat.{div-add-mod', le-div, mod_below}
use Rattle.bitvec.specs.Place.{words_met}
use Rattle.bitvec.specs.Span.{element}
use Rattle.bitvec.proofs.PlaceLemmas.{words_met-some}
use Rattle.bitvec.specs.Truths.{AllAre, IsFirst}
use Rattle.bitvec_slice.specs.Bits.{AllBetween, IsFirstBetween, IsLastBetween, AreFree}

-- what a word has at the place of an element
pub test_at : (head : ℕ) (xs : List Bool) (m j : ℕ) → m ≡ head + j → (nat_le head m && element xs (m - head)) ≡ element xs j
test_at head xs m j e = rw (le-leb head m (omega arith)) (ap (element xs) (let same : m - head ≡ j = omega arith in same))

-- bit i of a span is in word k of the words that it meets; `next` is one past the word's last bit, counted from the first word's
pub record IsWordOf (bits head len i k next : ℕ) : Type 0 where
  pub met : k < words_met bits head len
  pub from : k * bits ≤ head + i
  pub upto : head + i < next
  pub end : next ≡ k * bits + bits

pub word_at : (bits width head index len i : ℕ) → width ≡ bits → index ≡ head → 0 < bits → i < len → IsWordOf bits head len i ((index + i) / width) (((index + i) / width + 1) * width)
word_at bits width head index len i ew ei some inside =
    let q : ℕ = (head + i) / bits in
    let e : (index + i) / width ≡ (head + i) / bits = cc in
    let row : ((index + i) / width + 1) * width ≡ ((head + i) / bits + 1) * bits = cc in
    let parts = div-add-mod' (head + i) bits in
    let rest = mod_below (head + i) bits some in
    let count = words_met-some bits head len (omega arith) in
    let last = le-div ((head + i) / bits) (head + len - 1) bits some (omega (arith, parts)) in
    subst (λ n. IsWordOf bits head len i ((index + i) / width) n) (sym row)
    (subst (λ k. IsWordOf bits head len i k (((head + i) / bits + 1) * bits)) (sym e) (record {
      met = omega (arith, count, last);
      from = omega (arith, parts);
      upto = omega (arith, parts, rest);
      end = omega arith;
    }))

-- the first of a stretch is the first of a longer one, where there is none before the stretch
pub first_later : (xs : List Bool) (bit : Bool) (from next end upto i : ℕ) → from ≤ next → end ≤ upto → AllBetween (not bit) xs from next → IsFirstBetween bit xs next end i → IsFirstBetween bit xs from upto i
first_later xs bit from next end upto i later within none first =
    let start = first.0 in
    let below = first.1 in
    (omega arith, omega arith, first.2, (λ j h k. elim (cases_lt j next) [ inl before ↦ none j h before | inr on ↦ first.3 j on k ]))

-- the last of a stretch is the last of a longer one, where there is none behind the stretch
pub last_earlier : (xs : List Bool) (bit : Bool) (from start end upto i : ℕ) → from ≤ start → end ≤ upto → AllBetween (not bit) xs end upto → IsLastBetween bit xs start end i → IsLastBetween bit xs from upto i
last_earlier xs bit from start end upto i later within none last =
    let on = last.0 in
    let below = last.1 in
    (omega arith, omega arith, last.2, (λ j h k. elim (cases_lt j end) [ inl before ↦ last.3 j h before | inr past ↦ none j past k ]))

-- a one rules out each start from which it is met
pub not_free_before : (xs : List Bool) (count start one : ℕ) → ((k : ℕ) → k < start → ¬ AreFree xs k count) → IsLastBetween true xs start (start + count) one → (k : ℕ) → k < one + 1 → ¬ AreFree xs k count
not_free_before xs count start one none last k h free =
    elim (cases_lt k start) [
      | inl before ↦ none k before free
      | inr from ↦ (let below = last.1 in let zero_there = free.1 one (omega arith) (omega arith) in let one_there = last.2 in cc)
    ]

-- no start is left where there is no room
pub not_free : (xs : List Bool) (count start : ℕ) → ((k : ℕ) → k < start → ¬ AreFree xs k count) → length xs < start + count → (i : ℕ) → ¬ AreFree xs i count
not_free xs count start none short i free =
    elim (cases_lt i start) [ inl before ↦ none i before free | inr from ↦ (let room = free.0 in absurd (omega arith)) ]

-- what a comparison shows of its two sides
pub same_as : (b a : Bool) → beq a b ≡ true → a ≡ b
same_as true true e = refl
same_as true false e = e
same_as false true e = sym e
same_as false false e = refl

pub other_than : (b a : Bool) → beq a b ≡ false → a ≡ not b
other_than true true e = e
other_than true false e = refl
other_than false true e = refl
other_than false false e = sym e

-- the first of the elements before the list's end is the first of all
pub first_of_all : (xs : List Bool) (bit : Bool) (end : ℕ) (o : Option ℕ) → end ≡ length xs → MatchOption o (AllBetween (not bit) xs 0 end) (IsFirstBetween bit xs 0 end) → MatchOption o (AllAre (not bit) xs) (IsFirst bit xs)
first_of_all xs bit end None e none = λ j h. none j (omega arith) (omega arith)
first_of_all xs bit end (Some i) e first = let below = first.1 in (omega arith, first.2, (λ j h. first.3 j (omega arith) h))

-- whether there is a first element that is `bit` shows whether all are the other
pub first_shows : (xs : List Bool) (bit : Bool) (o : Option ℕ) → MatchOption o (AllAre (not bit) xs) (IsFirst bit xs) → (is_some o ≡ false) ↔ AllAre (not bit) xs
first_shows xs bit None all = ((λ e. all), (λ all. refl))
first_shows xs true (Some i) first = ((λ e. absurd (true≢false e)), (λ all. absurd (true≢false (sym first.1 ∙ all i first.0))))
first_shows xs false (Some i) first = ((λ e. absurd (true≢false e)), (λ all. absurd (true≢false (sym (all i first.0) ∙ first.1))))

-- whether there is none shows the same
pub none_shows : (xs : List Bool) (bit : Bool) (o : Option ℕ) (none : Bool) → is_some o ≡ not none → MatchOption o (AllAre (not bit) xs) (IsFirst bit xs) → IsTrue none ↔ AllAre (not bit) xs
none_shows xs bit o true e first = ((λ yes. (first_shows xs bit o first).0 e), (λ all. refl))
none_shows xs bit o false e first = ((λ yes. absurd (true≢false (sym yes))), (λ all. sym ((first_shows xs bit o first).1 all) ∙ e))

-- the first element, where there is one
pub first_element : (xs : List Bool) → MatchOption (slice_get xs 0) (length xs ≡ 0) (λ bit. (0 < length xs) × (bit ≡ element xs 0))
first_element [] = refl
first_element (x ∷ xs) = (omega arith, refl)
