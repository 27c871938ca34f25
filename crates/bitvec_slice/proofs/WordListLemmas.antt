-- What a word of a span shows of the span's list. `bits` is the width of a word, and `at` takes an index to its position.
use Rattle.std.proofs.Common.{◌≡◌, ℕ, ◌+◌, ◌-◌, ◌*◌, ◌^◌, ◌<◌, ◌≤◌, ◌==◌, ◌&&◌, min, Bool, true, false, true≢false, not, nat_le, nat_lt, List, refl, sym, ap, subst, ◌∙◌, inl, inr, arith}
use Rattle.std.specs.Prelude.{nat_abs, slice_index, Option, Some, None, MatchOption}
use Rattle.std.specs.Bool.{beq}
use Rattle.std.specs.Coded.{le_prop, Π_prop}
use mathlib.Core.Bool.{Bool-set}
use Rattle.std.proofs.lemmas.Bool.{cases_eq, cases_lt, eqb-true, and_parts, leb-true, ltb-true, le-leb, lt-leb, lt-ltb, le-ltb}
use Rattle.std.proofs.lemmas.Nat.{div-mul-add, mod-mul-add}
use Rattle.bitvec.specs.Digit.{digit, exclusive_or}
use Rattle.bitvec.specs.Memory.{bit_of}
use Rattle.bitvec.specs.Ones.{IsLowestOne, IsWithoutLowestOne}
use Rattle.bitvec.specs.Order.{IsOneToOne, IsMaskOf, Rises}
use Rattle.bitvec.specs.Span.{Span, list_of, element}
use Rattle.bitvec.proofs.DigitLemmas.{digit-zero, digit-pow, digit-pow_same, digit-pow_other}
use Rattle.bitvec.proofs.IndexLemmas.{digit-mask_at}
use Rattle.bitvec.proofs.MemoryLemmas.{bit_of-place}
use Rattle.bitvec.proofs.PartLemmas.{element-list_of}
use Rattle.bitvec_slice.specs.Bits.{AllBetween, IsFirstBetween, IsLastBetween, FindsBetween}
use Rattle.bitvec.specs.WordEnds.{HasNoIndex, IsFirstIndex, IsLastIndex}
use Rattle.bitvec_slice.specs.Chosen.{IsChosen, IsChosenFrom, IsFound}
use Rattle.bitvec_slice.proofs.FindLemmas.{same_as, other_than, first_later}
use Rattle.bitvec_slice.proofs.SkipLemmas.{all_joined}

-- an element of a span's list is the digit at its index's position in its word
pub element_digit : (bits : ℕ) (at : ℕ → ℕ) (span : Span) (words : List ℕ) (k i j : ℕ) → i < bits → k * bits + i ≡ span.head + j → j < span.len
    → element (list_of bits at span words) j ≡ digit (slice_index words (nat_abs span.word + k)) (at i)
element_digit bits at span words k i j small e inside =
    let place : nat_abs span.word * bits + span.head + j ≡ nat_abs span.word * bits + (k * bits + i) = omega arith in
    let word = div-mul-add k bits i small in
    let index = mod-mul-add k bits i small in
    element-list_of bits at span words j inside
    ∙ ap (bit_of bits at words) place
    ∙ bit_of-place bits at words (nat_abs span.word) (k * bits + i) (omega arith)
    ∙ (rw (word, index) refl)

-- A word of a memory, or the word with each digit turned over, under the mask of the indices from `low` to before `high`,
-- which are those of a span's elements from index `from` to before index `upto` in word k of those that it meets.
pub record IsMasked (bits : ℕ) (at : ℕ → ℕ) (span : Span) (words : List ℕ) (k from upto : ℕ) (bit : Bool) (low high mask turned w : ℕ) : Type 0 where
  pub law : IsOneToOne bits at
  pub start : k * bits + low ≡ span.head + from
  pub end : k * bits + high ≡ span.head + upto
  pub within : high ≤ bits
  pub inside : upto ≤ span.len
  pub masked : IsMaskOf bits at low high mask
  pub turns : (p : ℕ) → p < bits → digit turned p ≡ beq (digit (slice_index words (nat_abs span.word + k)) p) bit
  pub joins : (p : ℕ) → p < bits → digit w p ≡ (digit turned p && digit mask p)

and_off : (a b : Bool) → b ≡ false → (a && b) ≡ false
and_off true b e = e
and_off false b e = refl

and_on : (a b : Bool) → b ≡ true → (a && b) ≡ a
and_on true b e = e
and_on false b e = refl

-- such a word has the elements that are `bit`
pub chosen_word : {bits : ℕ} {at : ℕ → ℕ} {span : Span} {words : List ℕ} {k from upto : ℕ} {bit : Bool} {low high mask turned w : ℕ}
    → IsMasked bits at span words k from upto bit low high mask turned w → IsChosen bits at span.head (list_of bits at span words) k from upto bit w
chosen_word {bits} {at} {span} {words} {k} {from} {upto} {bit} {low} {high} {mask} {turned} {w} m =
    let start = m.start in
    let end = m.end in
    let within = m.within in
    let inside = m.inside in
    record {
      start = omega arith;
      end = omega arith;
      ones = λ i small.
          let p : ℕ = at i in
          let below = m.law.below i small in
          let mask_digit = digit-mask_at bits at low high mask i m.law within m.masked small in
          m.joins (at i) below
          ∙ elim (cases_lt i low) [
            | inl before ↦ (
                and_off (digit turned (at i)) (digit mask (at i)) (mask_digit ∙ (rw (lt-leb low i before) refl))
                ∙ sym (rw (lt-leb (span.head + from) (k * bits + i) (omega arith)) refl))
            | inr from_on ↦ elim (cases_lt i high) [
              | inl upto_here ↦ (
                  let j : ℕ = k * bits + i - span.head in
                  and_on (digit turned (at i)) (digit mask (at i)) (mask_digit ∙ (rw (le-leb low i from_on, lt-ltb i high upto_here) refl))
                  ∙ m.turns (at i) below
                  ∙ ap (λ b. beq b bit) (sym (element_digit bits at span words k i (k * bits + i - span.head) small (omega arith) (omega arith)))
                  ∙ sym (rw (le-leb (span.head + from) (k * bits + i) (omega arith), lt-ltb (k * bits + i) (span.head + upto) (omega arith)) refl))
              | inr past ↦ (
                  and_off (digit turned (at i)) (digit mask (at i)) (mask_digit ∙ (rw (le-leb low i from_on, le-ltb i high past) refl))
                  ∙ sym (rw (le-leb (span.head + from) (k * bits + i) (omega arith), le-ltb (k * bits + i) (span.head + upto) (omega arith)) refl))
            ]
          ];
    }

-- a one of such a word is an element
chosen_element : {bits : ℕ} {at : ℕ → ℕ} {head : ℕ} {xs : List Bool} {k from upto : ℕ} {bit : Bool} {w : ℕ}
    → IsChosen bits at head xs k from upto bit w → (i : ℕ) → i < bits → digit w (at i) ≡ true
    → (head + from ≤ k * bits + i) × (k * bits + i < head + upto) × (element xs (k * bits + i - head) ≡ bit)
chosen_element {bits} {at} {head} {xs} {k} {from} {upto} {bit} {w} c i small one =
    let outer = and_parts (nat_le (head + from) (k * bits + i) && nat_lt (k * bits + i) (head + upto)) (beq (element xs (k * bits + i - head)) bit) (sym (c.ones i small) ∙ one) in
    let inner = and_parts (nat_le (head + from) (k * bits + i)) (nat_lt (k * bits + i) (head + upto)) outer.0 in
    (leb-true (head + from) (k * bits + i) inner.0, ltb-true (k * bits + i) (head + upto) inner.1, same_as bit (element xs (k * bits + i - head)) outer.1)

-- an element at whose index there is none is the other
passed_element : {bits : ℕ} {at : ℕ → ℕ} {head : ℕ} {xs : List Bool} {k from upto : ℕ} {bit : Bool} {w : ℕ}
    → IsChosen bits at head xs k from upto bit w → (i j : ℕ) → i < bits → k * bits + i ≡ head + j → from ≤ j → j < upto → digit w (at i) ≡ false
    → element xs j ≡ not bit
passed_element {bits} {at} {head} {xs} {k} {from} {upto} {bit} {w} c i j small e low high none =
    let here : k * bits + i - head ≡ j = omega arith in
    let all : (nat_le (head + from) (k * bits + i) && nat_lt (k * bits + i) (head + upto) && beq (element xs (k * bits + i - head)) bit) ≡ beq (element xs (k * bits + i - head)) bit =
    rw (le-leb (head + from) (k * bits + i) (omega arith), lt-ltb (k * bits + i) (head + upto) (omega arith)) refl in
    ap (element xs) (sym here) ∙ other_than bit (element xs (k * bits + i - head)) (sym all ∙ sym (c.ones i small) ∙ none)

-- where the word has no one, no element from index `from` to before index `upto` is `bit`
pub chosen_none : {bits : ℕ} {at : ℕ → ℕ} {head : ℕ} {xs : List Bool} {k from upto : ℕ} {bit : Bool} {w : ℕ}
    → IsChosen bits at head xs k from upto bit w → HasNoIndex bits at w → AllBetween (not bit) xs from upto
chosen_none {bits} {at} {head} {xs} {k} {from} {upto} {bit} {w} c none j low high =
    let start = c.start in
    let end = c.end in
    let i : ℕ = head + j - k * bits in
    let small : head + j - k * bits < bits = omega arith in
    passed_element c (head + j - k * bits) j small (omega arith) low high (none (head + j - k * bits) small)

-- the first of these elements is at the first index at which the word has a one
pub chosen_first : {bits : ℕ} {at : ℕ → ℕ} {head : ℕ} {xs : List Bool} {k from upto : ℕ} {bit : Bool} {w : ℕ}
    → IsChosen bits at head xs k from upto bit w → (i r : ℕ) → IsFirstIndex bits at w i → r ≡ k * bits + i - head → IsFirstBetween bit xs from upto r
chosen_first {bits} {at} {head} {xs} {k} {from} {upto} {bit} {w} c i r first e =
    let here = chosen_element c i first.0 first.1 in
    let low = here.0 in
    let high = here.1 in
    let start = c.start in
    let small = first.0 in (
      omega arith,
      omega arith,
      ap (element xs) e ∙ here.2,
      λ j after before.
          let less : head + j - k * bits < i = omega arith in
          passed_element c (head + j - k * bits) j (omega arith) (omega arith) after (omega arith) (first.2 (head + j - k * bits) less),
    )

-- the last of them is at the last
pub chosen_last : {bits : ℕ} {at : ℕ → ℕ} {head : ℕ} {xs : List Bool} {k from upto : ℕ} {bit : Bool} {w : ℕ}
    → IsChosen bits at head xs k from upto bit w → (i r : ℕ) → IsLastIndex bits at w i → r ≡ k * bits + i - head → IsLastBetween bit xs from upto r
chosen_last {bits} {at} {head} {xs} {k} {from} {upto} {bit} {w} c i r last e =
    let here = chosen_element c i last.0 last.1 in
    let low = here.0 in
    let high = here.1 in
    let start = c.start in
    let end = c.end in
    let small = last.0 in (
      omega arith,
      omega arith,
      ap (element xs) e ∙ here.2,
      λ j after before.
          let more : i < head + j - k * bits = omega arith in
          let within : head + j - k * bits < bits = omega arith in
          passed_element c (head + j - k * bits) j within (omega arith) (omega arith) before (last.2 (head + j - k * bits) more within),
    )

-- no elements, and no ones
pub chosen_empty : (bits : ℕ) (at : ℕ → ℕ) (head : ℕ) (xs : List Bool) (bit : Bool) (w : ℕ) → head < bits → w ≡ 0 → IsChosen bits at head xs 0 0 0 bit w
chosen_empty bits at head xs bit w small zero = record {
  start = omega arith;
  end = omega arith;
  ones = λ i h. ap (λ n. digit n (at i)) zero ∙ digit-zero (at i) ∙ elim (cases_lt (0 * bits + i) (head + 0)) [
    | inl before ↦ sym (rw (lt-leb (head + 0) (0 * bits + i) before) refl)
    | inr past ↦ sym (rw (le-leb (head + 0) (0 * bits + i) past, le-ltb (0 * bits + i) (head + 0) past) refl)
  ];
}

or_neither : (a : Bool) → exclusive_or a false ≡ a
or_neither true = refl
or_neither false = refl

turned_where_one : (a b : Bool) → (b ≡ true → a ≡ true) → (a && not b) ≡ exclusive_or a b
turned_where_one true b h = refl
turned_where_one false true h = h refl
turned_where_one false false h = refl

beq_same : (b : Bool) → beq b b ≡ true
beq_same true = refl
beq_same false = refl

beq_other : (a b : Bool) → (a && beq (not b) b) ≡ false
beq_other true true = refl
beq_other true false = refl
beq_other false b = refl

apart : (q i : ℕ) → (q ≡ i → ⊥) → i ≤ q → i < q
apart q i other past = elim (cases_lt i q) [
  | inl less ↦ less
  | inr most ↦ absurd (other (omega (arith, past, most)))
]

-- where positions rise, the lowest one is the first: without it, the word has that digit turned over
pub turned_lowest : {bits : ℕ} {at : ℕ → ℕ} {w v i : ℕ} → Rises bits at → IsFirstIndex bits at w i → IsWithoutLowestOne bits w v
    → (p : ℕ) → p < bits → digit v p ≡ exclusive_or (digit w p) (digit (2 ^ at i) p)
turned_lowest {bits} {at} {w} {v} {i} rises first without p h =
    let small = first.0 in
    let here = rises i small in
    let one : digit w i ≡ true = ap (digit w) (sym here) ∙ first.1 in
    let low : IsLowestOne bits w i = (small, one, λ q lt. ap (digit w) (sym (rises q (omega (arith, lt, small)))) ∙ first.2 q lt) in
    without.digits i low p h
    ∙ turned_where_one (digit w p) (p == i) (λ e. ap (digit w) (eqb-true p i e) ∙ one)
    ∙ ap (exclusive_or (digit w p)) (sym (digit-pow i p) ∙ ap (λ n. digit (2 ^ n) p) (sym here))

-- with its first one turned over the word has the elements behind that one
pub chosen_behind : {bits : ℕ} {at : ℕ → ℕ} {head : ℕ} {xs : List Bool} {k from upto : ℕ} {bit : Bool} {w : ℕ}
    → IsChosen bits at head xs k from upto bit w → IsOneToOne bits at → (i r v : ℕ) → IsFirstIndex bits at w i → r ≡ k * bits + i - head
    → ((p : ℕ) → p < bits → digit v p ≡ exclusive_or (digit w p) (digit (2 ^ at i) p))
    → IsChosen bits at head xs k (r + 1) upto bit v
chosen_behind {bits} {at} {head} {xs} {k} {from} {upto} {bit} {w} c law i r v first e turns =
    let here = chosen_element c i first.0 first.1 in
    let low = here.0 in
    let small = first.0 in
    let place : head + r ≡ k * bits + i = omega arith in
    record {
      start = omega arith;
      end = c.end;
      ones = λ q h.
          turns (at q) (law.below q h)
          ∙ elim (cases_eq q i) [
            | inl same ↦ (
                let one : digit w (at q) ≡ true = ap (λ n. digit w (at n)) same ∙ first.1 in
                let two : digit (2 ^ at i) (at q) ≡ true = ap (λ n. digit (2 ^ at i) (at n)) same ∙ digit-pow_same (at i) in
                rw (one, two) (sym (rw (lt-leb (head + (r + 1)) (k * bits + q) (omega arith)) refl)))
            | inr other ↦ (
                let none : digit (2 ^ at i) (at q) ≡ false = digit-pow_other (at i) (at q) (λ f. other (law.apart q i h small f)) in
                ap (exclusive_or (digit w (at q))) none
                ∙ or_neither (digit w (at q))
                ∙ elim (cases_lt q i) [
                  | inl before ↦ (first.2 q before ∙ sym (rw (lt-leb (head + (r + 1)) (k * bits + q) (omega arith)) refl))
                  | inr past ↦ (c.ones q h ∙ (rw (le-leb (head + (r + 1)) (k * bits + q) (omega arith), le-leb (head + from) (k * bits + q) (omega arith)) refl))
                ])
          ];
    }

-- with the last of the elements from index `from` to before index `end` turned over the word has those before it
pub chosen_before : {bits : ℕ} {at : ℕ → ℕ} {head : ℕ} {xs : List Bool} {k from upto : ℕ} {bit : Bool} {w : ℕ}
    → IsChosen bits at head xs k from upto bit w → IsOneToOne bits at → (end i r v : ℕ) → upto ≤ end → r < upto → i < bits → k * bits + i ≡ head + r → IsLastBetween bit xs from end r
    → ((p : ℕ) → p < bits → digit v p ≡ exclusive_or (digit w p) (digit (2 ^ at i) p))
    → IsChosen bits at head xs k from r bit v
chosen_before {bits} {at} {head} {xs} {k} {from} {upto} {bit} {w} c law end i r v within less small place last turns =
    let low = last.0 in
    let start = c.start in
    let finish = c.end in
    let here : k * bits + i - head ≡ r = omega (arith, place) in
    let is_one : beq (element xs (k * bits + i - head)) bit ≡ true = ap (λ n. beq (element xs n) bit) here ∙ ap (λ b. beq b bit) last.2 ∙ beq_same bit in
    record {
      start = c.start;
      end = omega (arith, finish, less);
      ones = λ q h.
          turns (at q) (law.below q h)
          ∙ elim (cases_eq q i) [
            | inl same ↦ (
                let one : digit w (at i) ≡ true = c.ones i small ∙ (rw (le-leb (head + from) (k * bits + i) (omega (arith, place, low)), lt-ltb (k * bits + i) (head + upto) (omega (arith, place, less))) is_one) in
                let first : digit w (at q) ≡ true = ap (λ n. digit w (at n)) same ∙ one in
                let two : digit (2 ^ at i) (at q) ≡ true = ap (λ n. digit (2 ^ at i) (at n)) same ∙ digit-pow_same (at i) in
                rw (first, two) (sym (rw (le-leb (head + from) (k * bits + q) (omega (arith, place, low, same)), le-ltb (k * bits + q) (head + r) (omega (arith, place, same))) refl)))
            | inr other ↦ (
                let none : digit (2 ^ at i) (at q) ≡ false = digit-pow_other (at i) (at q) (λ f. other (law.apart q i h small f)) in
                ap (exclusive_or (digit w (at q))) none
                ∙ or_neither (digit w (at q))
                ∙ c.ones q h
                ∙ elim (cases_lt q i) [
                  | inl before ↦ (rw (lt-ltb (k * bits + q) (head + upto) (omega (arith, place, before, less)), lt-ltb (k * bits + q) (head + r) (omega (arith, place, before))) refl)
                  | inr past ↦ (
                      let on : head + from ≤ k * bits + q = omega (arith, place, past, low) in
                      let off : nat_lt (k * bits + q) (head + r) ≡ false = le-ltb (k * bits + q) (head + r) (omega (arith, place, past)) in
                      elim (cases_lt (k * bits + q) (head + upto)) [
                        | inl inside ↦ (
                            let not_here : element xs (k * bits + q - head) ≡ not bit = last.3 (k * bits + q - head) (omega (arith, place, past, apart q i other past)) (omega (arith, inside, within)) in
                            rw (le-leb (head + from) (k * bits + q) on, off, not_here) (beq_other (nat_lt (k * bits + q) (head + upto)) bit))
                        | inr behind ↦ (rw (le-leb (head + from) (k * bits + q) on, off, le-ltb (k * bits + q) (head + upto) behind) refl)
                      ])
                ])
          ];
    }

-- two proofs that a word has the same elements are one
pub chosen_prop : {bits : ℕ} {at : ℕ → ℕ} {head : ℕ} {xs : List Bool} {k from upto : ℕ} {bit : Bool} {w : ℕ} → (c d : IsChosen bits at head xs k from upto bit w) → c ≡ d
chosen_prop {bits} {at} {head} {xs} {k} {from} {upto} {bit} {w} c d =
    ap (λ (s : k * bits ≤ head + from). record c { start = s }) (le_prop c.start d.start)
    ∙ ap (λ (e : head + upto ≤ (k + 1) * bits). record c { start = d.start; end = e }) (le_prop c.end d.end)
    ∙ ap (λ (o : (i : ℕ) → i < bits → digit w (at i) ≡ (nat_le (head + from) (k * bits + i) && nat_lt (k * bits + i) (head + upto) && beq (element xs (k * bits + i - head)) bit)). record d { ones = o })
    (Π_prop (λ i. Π_prop (λ h. Bool-set (digit w (at i)) (nat_le (head + from) (k * bits + i) && nat_lt (k * bits + i) (head + upto) && beq (element xs (k * bits + i - head)) bit))) c.ones d.ones)

-- a word that lies in the span whole has the elements that are `bit` with no mask
pub chosen_whole : (bits : ℕ) (at : ℕ → ℕ) (span : Span) (words : List ℕ) (k upto : ℕ) (bit : Bool) (w : ℕ) → IsOneToOne bits at → span.head ≤ k * bits
    → upto ≡ k * bits + bits - span.head → upto ≤ span.len → ((p : ℕ) → p < bits → digit w p ≡ beq (digit (slice_index words (nat_abs span.word + k)) p) bit)
    → IsChosen bits at span.head (list_of bits at span words) k (k * bits - span.head) upto bit w
chosen_whole bits at span words k upto bit w law low end inside turns = record {
  start = omega arith;
  end = omega arith;
  ones = λ i small.
      turns (at i) (law.below i small)
      ∙ ap (λ b. beq b bit) (sym (element_digit bits at span words k i (k * bits + i - span.head) small (omega arith) (omega arith)))
      ∙ sym (rw (le-leb (span.head + (k * bits - span.head)) (k * bits + i) (omega arith), lt-ltb (k * bits + i) (span.head + upto) (omega arith)) refl);
}

-- the first behind some elements that are not `bit` is the first of all
pub found_behind : {bits : ℕ} {at : ℕ → ℕ} {head : ℕ} {xs : List Bool} {bit : Bool} {from mid upto k w i : ℕ}
    → from ≤ mid → AllBetween (not bit) xs from mid → IsFound bits at head xs bit mid upto k w i → IsFound bits at head xs bit from upto k w i
found_behind {bits} {at} {head} {xs} {bit} {from} {mid} {upto} {k} {w} {i} low none f =
    let later = f.later in
    record { begin = f.begin; later = omega arith; passed = all_joined (not bit) xs from mid f.begin none f.passed; chosen = f.chosen; first = f.first }

-- what is found is the first
pub found_first : {bits : ℕ} {at : ℕ → ℕ} {head : ℕ} {xs : List Bool} {bit : Bool} {from upto k w i : ℕ}
    → IsFound bits at head xs bit from upto k w i → (r : ℕ) → r ≡ k * bits + i - head → IsFirstBetween bit xs from upto r
found_first {bits} {at} {head} {xs} {bit} {from} {upto} {k} {w} {i} f r e =
    first_later xs bit from f.begin upto upto r f.later (omega arith) f.passed (chosen_first f.chosen i r f.first e)

-- the same where the first stretch ends at index `end`, before which all that is found lies
found_left : {bits : ℕ} {at : ℕ → ℕ} {head : ℕ} {xs : List Bool} {bit : Bool} {from mid end upto k w i : ℕ}
    → from ≤ min end mid → AllBetween (not bit) xs from (min end mid) → upto ≤ end → IsFound bits at head xs bit mid upto k w i → IsFound bits at head xs bit from upto k w i
found_left {bits} {at} {head} {xs} {bit} {from} {mid} {end} {upto} {k} {w} {i} low none within f =
    let here = chosen_element f.chosen i f.first.0 f.first.1 in
    let after = here.0 in
    let before = here.1 in
    let later = f.later in
    let all : min end mid ≡ mid = omega (arith, after, before, later, within) in
    found_behind (omega (arith, low, all)) (subst (λ n. AllBetween (not bit) xs from n) all none) f

-- the same of what may be found, of which something else is known
pub option_left : {A : Type 0} (known : A → Type 0) (bits : ℕ) (at : ℕ → ℕ) (head : ℕ) (xs : List Bool) (bit : Bool) (from mid end : ℕ) (o : Option A) (upto k w i : A → ℕ)
    → from ≤ min end mid → AllBetween (not bit) xs from (min end mid) → ((it : A) → upto it ≤ end)
    → MatchOption o (AllBetween (not bit) xs mid end) (λ it. known it × IsFound bits at head xs bit mid (upto it) (k it) (w it) (i it))
    → MatchOption o (AllBetween (not bit) xs from end) (λ it. known it × IsFound bits at head xs bit from (upto it) (k it) (w it) (i it))
option_left known bits at head xs bit from mid end None upto k w i low none within rest = λ j after before.
    elim (cases_lt j mid) [
      | inl less ↦ none j after (omega (arith, less, before))
      | inr most ↦ rest j most before
    ]
option_left known bits at head xs bit from mid end (Some it) upto k w i low none within f = (f.0, found_left low none (within it) f.1)

-- the same word, whichever way its first index was found
pub found_at : {bits : ℕ} {at : ℕ → ℕ} {head : ℕ} {xs : List Bool} {bit : Bool} {from upto k w i : ℕ}
    → IsFound bits at head xs bit from upto k w i → (j : ℕ) → IsFirstIndex bits at w j → IsFound bits at head xs bit from upto k w j
found_at {bits} {at} {head} {xs} {bit} {from} {upto} {k} {w} {i} f j first = record { begin = f.begin; later = f.later; passed = f.passed; chosen = f.chosen; first = first }

-- what is found is an element
pub found_place : {bits : ℕ} {at : ℕ → ℕ} {head : ℕ} {xs : List Bool} {bit : Bool} {from upto k w i : ℕ}
    → IsFound bits at head xs bit from upto k w i → (head ≤ k * bits + i) × (k * bits + i < head + upto)
found_place {bits} {at} {head} {xs} {bit} {from} {upto} {k} {w} {i} f =
    let here = chosen_element f.chosen i f.first.0 f.first.1 in
    let low = here.0 in
    (omega (arith, low), here.1)

-- the index of an element by its place in word k
pub found_index : (k i bits head : ℕ) → {width index start : ℕ} → width ≡ bits → index ≡ i → start ≡ head → k * width + index - start ≡ k * bits + i - head
found_index k i bits head {width} {index} {start} ew ei es = ap (λ b. k * b + index - start) ew ∙ ap (λ n. k * bits + n - start) ei ∙ ap (λ h. k * bits + i - h) es

-- A word of a memory, or the word with each digit turned over, under the mask of the indices from `low` on, which is that of
-- a span's element with index `from` in word k of those that it meets.
pub record IsMaskedFrom (bits : ℕ) (at : ℕ → ℕ) (span : Span) (words : List ℕ) (k from : ℕ) (bit : Bool) (low mask turned w : ℕ) : Type 0 where
  pub law : IsOneToOne bits at
  pub start : k * bits + low ≡ span.head + from
  pub masked : IsMaskOf bits at low bits mask
  pub turns : (p : ℕ) → p < bits → digit turned p ≡ beq (digit (slice_index words (nat_abs span.word + k)) p) bit
  pub joins : (p : ℕ) → p < bits → digit w p ≡ (digit turned p && digit mask p)

-- such a word has the elements that are `bit`
pub masked_from : {bits : ℕ} {at : ℕ → ℕ} {span : Span} {words : List ℕ} {k from : ℕ} {bit : Bool} {low mask turned w : ℕ}
    → IsMaskedFrom bits at span words k from bit low mask turned w → IsChosenFrom bits at span.head (list_of bits at span words) k from span.len bit w
masked_from {bits} {at} {span} {words} {k} {from} {bit} {low} {mask} {turned} {w} m =
    let start = m.start in
    record {
      start = omega arith;
      ones = λ i small within.
          let below = m.law.below i small in
          let mask_digit = digit-mask_at bits at low bits mask i m.law (omega arith) m.masked small in
          m.joins (at i) below
          ∙ elim (cases_lt i low) [
            | inl before ↦ (
                and_off (digit turned (at i)) (digit mask (at i)) (mask_digit ∙ (rw (lt-leb low i before) refl))
                ∙ sym (rw (lt-leb (span.head + from) (k * bits + i) (omega arith)) refl))
            | inr on ↦ (
                and_on (digit turned (at i)) (digit mask (at i)) (mask_digit ∙ (rw (le-leb low i on, lt-ltb i bits small) refl))
                ∙ m.turns (at i) below
                ∙ ap (λ b. beq b bit) (sym (element_digit bits at span words k i (k * bits + i - span.head) small (omega arith) (omega arith)))
                ∙ sym (rw (le-leb (span.head + from) (k * bits + i) (omega arith)) refl))
          ];
    }

-- a word that begins in the span has the elements that are `bit` with no mask
pub whole_from : (bits : ℕ) (at : ℕ → ℕ) (span : Span) (words : List ℕ) (k from : ℕ) (bit : Bool) (w : ℕ) → IsOneToOne bits at → span.head ≤ k * bits
    → from ≡ k * bits - span.head → ((p : ℕ) → p < bits → digit w p ≡ beq (digit (slice_index words (nat_abs span.word + k)) p) bit)
    → IsChosenFrom bits at span.head (list_of bits at span words) k from span.len bit w
whole_from bits at span words k from bit w law low is turns = record {
  start = omega arith;
  ones = λ i small within.
      turns (at i) (law.below i small)
      ∙ ap (λ b. beq b bit) (sym (element_digit bits at span words k i (k * bits + i - span.head) small (omega arith) (omega arith)))
      ∙ sym (rw (le-leb (span.head + from) (k * bits + i) (omega arith)) refl);
}

-- an element's digit of such a word
digit_from : {bits : ℕ} {at : ℕ → ℕ} {head : ℕ} {xs : List Bool} {k from end : ℕ} {bit : Bool} {w : ℕ}
    → IsChosenFrom bits at head xs k from end bit w → (i j : ℕ) → i < bits → k * bits + i ≡ head + j → from ≤ j → j < end → digit w (at i) ≡ beq (element xs j) bit
digit_from {bits} {at} {head} {xs} {k} {from} {end} {bit} {w} c i j small e low high =
    let here : k * bits + i - head ≡ j = omega arith in
    let on : head + from ≤ k * bits + i = omega arith in
    c.ones i small (omega arith) ∙ (rw (le-leb (head + from) (k * bits + i) on) (ap (λ n. beq (element xs n) bit) here))

-- where the word has no one, no element from index `from` on that it has is `bit`
pub none_from : {bits : ℕ} {at : ℕ → ℕ} {head : ℕ} {xs : List Bool} {k from end : ℕ} {bit : Bool} {w : ℕ}
    → IsChosenFrom bits at head xs k from end bit w → HasNoIndex bits at w → (upto : ℕ) → upto ≤ end → head + upto ≤ (k + 1) * bits → AllBetween (not bit) xs from upto
none_from {bits} {at} {head} {xs} {k} {from} {end} {bit} {w} c none upto inside within j low high =
    let start = c.start in
    let small : head + j - k * bits < bits = omega arith in
    other_than bit (element xs j) (sym (digit_from c (head + j - k * bits) j small (omega arith) low (omega arith)) ∙ none (head + j - k * bits) small)

-- no one of the word is before index `from`
pub index_from : {bits : ℕ} {at : ℕ → ℕ} {head : ℕ} {xs : List Bool} {k from end : ℕ} {bit : Bool} {w : ℕ}
    → IsChosenFrom bits at head xs k from end bit w → (i : ℕ) → IsFirstIndex bits at w i → from < end → head + from ≤ k * bits + i
index_from {bits} {at} {head} {xs} {k} {from} {end} {bit} {w} c i first some =
    elim (cases_lt (k * bits + i) (head + from)) [
      | inl before ↦ absurd (true≢false (sym first.1 ∙ c.ones i first.0 (omega arith) ∙ (rw (lt-leb (head + from) (k * bits + i) before) refl)))
      | inr on ↦ on
    ]

-- before the first one of the word no element is `bit`
pub passed_from : {bits : ℕ} {at : ℕ → ℕ} {head : ℕ} {xs : List Bool} {k from end : ℕ} {bit : Bool} {w : ℕ}
    → IsChosenFrom bits at head xs k from end bit w → (i r : ℕ) → IsFirstIndex bits at w i → r ≡ k * bits + i - head → (upto : ℕ) → upto ≤ end → upto ≤ r
    → AllBetween (not bit) xs from upto
passed_from {bits} {at} {head} {xs} {k} {from} {end} {bit} {w} c i r first e upto inside behind j low high =
    let start = c.start in
    let below = first.0 in
    let less : head + j - k * bits < i = omega arith in
    other_than bit (element xs j) (sym (digit_from c (head + j - k * bits) j (omega arith) (omega arith) low (omega arith)) ∙ first.2 (head + j - k * bits) less)

-- the first one of the word is the first element, if it is before the end of those that are sought
pub first_from : {bits : ℕ} {at : ℕ → ℕ} {head : ℕ} {xs : List Bool} {k from end : ℕ} {bit : Bool} {w : ℕ}
    → IsChosenFrom bits at head xs k from end bit w → (i r : ℕ) → IsFirstIndex bits at w i → r ≡ k * bits + i - head → (upto : ℕ) → upto ≤ end → from < upto → r < upto
    → IsFirstBetween bit xs from upto r
first_from {bits} {at} {head} {xs} {k} {from} {end} {bit} {w} c i r first e upto inside some before =
    let on = index_from c i first (omega arith) in (
      omega arith,
      before,
      same_as bit (element xs r) (sym (digit_from c i r first.0 (omega arith) (omega arith) (omega arith)) ∙ first.1),
      passed_from c i r first e r (omega arith) (omega arith),
    )

-- what is found behind some elements that are not `bit` is found from the first of these on
pub finds_behind : (xs : List Bool) (bit : Bool) (from mid upto : ℕ) (o : Option ℕ) → from ≤ mid → AllBetween (not bit) xs from mid → FindsBetween bit xs mid upto o → FindsBetween bit xs from upto o
finds_behind xs bit from mid upto None low none rest = all_joined (not bit) xs from mid upto none rest
finds_behind xs bit from mid upto (Some i) low none first = first_later xs bit from mid upto upto i low (omega arith) none first
