-- The two parts of a span, one behind the other.
use Rattle.std.proofs.Common.{◌≡◌, ℕ, ◌+◌, ◌-◌, ◌*◌, ◌/◌, ◌<◌, ◌≤◌, Bool, false, List, ◌++◌, sym, ap, subst, ◌∙◌, refl, inl, inr, arith, length-append}
use Rattle.std.specs.Prelude.{ℤ, pos, nat_abs, ◌+ℤ◌, ◌≤ℤ◌}
use Rattle.std.proofs.lemmas.Int.{ints}
use Rattle.std.proofs.lemmas.Nat.{mod_below}
use Rattle.std.proofs.lemmas.Bool.{cases_eq, cases_lt}
use Rattle.std.proofs.lemmas.List.{get_or_append_left, get_or-append_right}
use Rattle.bitvec_ptr.specs.Memory.{bit_of}
use Rattle.bitvec_ptr.specs.Place.{Ptr, place_at, place_of, words_met}
use Rattle.bitvec_ptr.proofs.MemoryLemmas.{get_or-tabulate, tabulate-from_elements}
use Rattle.bitvec_ptr.proofs.PlaceLemmas.{words_met-none, words_met-some}
use Rattle.bitvec_ptr.proofs.PlaceOrder.{place_same}
use Rattle.bitvec_ptr.proofs.StepLemmas.{step_place}
use Rattle.bitvec_span.specs.Span.{Span, Covers, Fits, AreDisjoint, list_of, span_upto, span_from}
use Rattle.bitvec_span.proofs.DisjointLemmas.{disjoint-before}
use Rattle.bitvec_span.proofs.PartLemmas.{length-list_of}
use Rattle.bitvec_span.proofs.PointerLemmas.{quotient_up, pointer_at, index_from, range-pointer_at}

-- a span of fewer bits meets no more words
pub met_before : (bits head mid len : ℕ) → 0 < bits → mid ≤ len → words_met bits head mid ≤ words_met bits head len
met_before bits head mid len some h =
    elim (cases_eq mid 0) [
      | inl none ↦ omega (arith, words_met-none bits head mid none)
      | inr more ↦ (
          let up = quotient_up (head + mid - 1) (head + len - 1) bits some (omega arith) in
          omega (arith, up, words_met-some bits head mid (omega arith), words_met-some bits head len (omega arith)))
    ]

module _ (bits : ℕ) (span : Span) (mid : ℕ) (some : 0 < bits) (within : mid ≤ span.len) where
  -- the second part starts where the first ends
  pub place_behind : place_at bits (span_from bits span mid).word (span_from bits span mid).head ≡ place_at bits span.word span.head +ℤ pos mid
  place_behind = step_place span.word (pos ((span.head + mid) / bits)) (pos mid) (pos (span.head + mid)) span.head _ bits some refl refl refl

  -- a span from the pointer on that is `mid` bits past the first is the second part
  pub behind-from_start : (first start : Ptr) (word : ℤ) (head : ℕ) → start.bit < bits → first ≡ record { word = span.word; bit = span.head } → place_of bits start ≡ place_of bits first +ℤ pos mid
      → word ≡ start.word → head ≡ start.bit → record { word = word; head = head; len = span.len - mid } ≡ span_from bits span mid
  behind-from_start first start word head small is_first place is_word is_head =
      let same = place_same bits start (pointer_at bits span mid) small (mod_below (span.head + mid) bits some) (place ∙ ap (λ (p : Ptr). place_of bits p +ℤ pos mid) is_first ∙ sym place_behind) in
      let words = is_word ∙ ap (λ (p : Ptr). p.word) same in
      let heads = is_head ∙ ap (λ (p : Ptr). p.bit) same in
      λ i. record { word = words i; head = heads i; len = span.len - mid }

  pub parts-disjoint : AreDisjoint bits (span_upto span mid) (span_from bits span mid)
  parts-disjoint = disjoint-before bits (span_upto span mid) (span_from bits span mid) (omega (arith, ints, place_behind))

  -- a place of a part is one of the span
  pub covers-before : (place : ℤ) → Covers bits (span_upto span mid) place → Covers bits span place
  covers-before place c = (c.0, omega (arith, ints, c.1, within))

  pub covers-behind : (place : ℤ) → Covers bits (span_from bits span mid) place → Covers bits span place
  covers-behind place c = (omega (arith, ints, c.0, place_behind), omega (arith, ints, c.1, place_behind, within))

  pub parts-apart : (other : Span) → AreDisjoint bits span other → AreDisjoint bits (span_upto span mid) other × AreDisjoint bits (span_from bits span mid) other
  parts-apart other apart = (λ place here there. apart place (covers-before place here) there, λ place here there. apart place (covers-behind place here) there)

  pub parts-fit : (words : ℕ) → span.head < bits → Fits bits span words → Fits bits (span_upto span mid) words × Fits bits (span_from bits span mid) words
  parts-fit words in_head fits =
      let met = met_before bits span.head mid span.len some within in
      ((fits.0, omega (arith, fits.1, met)), range-pointer_at bits span words in_head fits mid (span.len - mid) (omega (arith, within)))

  pub parts-lists : (at : ℕ → ℕ) (words : List ℕ) → pos 0 ≤ℤ span.word → list_of bits at (span_upto span mid) words ++ list_of bits at (span_from bits span mid) words ≡ list_of bits at span words
  parts-lists at words from =
      let behind : Span = span_from bits span mid in
      let xs : List Bool = list_of bits at (span_upto span mid) words in
      let ys : List Bool = list_of bits at behind words in
      let long = length-list_of bits at (span_upto span mid) words in
      let longer = length-list_of bits at behind words in
      tabulate-from_elements (xs ++ ys) span.len (λ j. bit_of bits at words (nat_abs span.word * bits + span.head + j)) false (omega (arith, length-append xs ys, long, longer, within)) (λ j h. elim (cases_lt j mid) [
        | inl first ↦ get_or_append_left xs ys false j (omega (arith, long)) ∙ get_or-tabulate mid (λ n. bit_of bits at words (nat_abs span.word * bits + span.head + n)) j false first
        | inr past ↦ (
            let start = index_from span.word bits span.head mid from in
            get_or-append_right xs ys mid j false long past
            ∙ get_or-tabulate (span.len - mid) (λ n. bit_of bits at words (nat_abs behind.word * bits + behind.head + n)) (j - mid) false (omega (arith, h, past))
            ∙ ap (bit_of bits at words) (let same : nat_abs behind.word * bits + behind.head + (j - mid) ≡ nat_abs span.word * bits + span.head + j = omega (arith, start, past) in same))
      ])

-- the same of two spans that are known to be the parts
module _ (bits : ℕ) (span first second : Span) (mid : ℕ) (some : 0 < bits) (within : mid ≤ span.len) (is_first : first ≡ span_upto span mid) (is_second : second ≡ span_from bits span mid) where
  both : (P : Span → Span → Type 0) → P (span_upto span mid) (span_from bits span mid) → P first second
  both P p = subst (λ a. P a second) (sym is_first) (subst (P (span_upto span mid)) (sym is_second) p)

  pub split-disjoint : AreDisjoint bits first second
  split-disjoint = both (AreDisjoint bits) (parts-disjoint bits span mid some within)

  pub split-apart : (other : Span) → AreDisjoint bits span other → AreDisjoint bits first other × AreDisjoint bits second other
  split-apart other apart = both (λ a b. AreDisjoint bits a other × AreDisjoint bits b other) (parts-apart bits span mid some within other apart)

  pub split-fit : span.head < bits → (words : ℕ) → Fits bits span words → Fits bits first words × Fits bits second words
  split-fit in_head words fits = both (λ a b. Fits bits a words × Fits bits b words) (parts-fit bits span mid some within words in_head fits)

  pub split-lists : (at : ℕ → ℕ) (words : List ℕ) → pos 0 ≤ℤ span.word → list_of bits at first words ++ list_of bits at second words ≡ list_of bits at span words
  split-lists at words from = both (λ a b. list_of bits at a words ++ list_of bits at b words ≡ list_of bits at span words) (parts-lists bits span mid some within at words from)
