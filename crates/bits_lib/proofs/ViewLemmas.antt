-- An edit of one of several disjoint spans of a memory leaves the lists of the others, and those of the spans beside them.
use Rattle.std.proofs.Common.{◌≡◌, ◌≢◌, ℕ, ◌+◌, ◌-◌, ◌*◌, ◌<◌, Bool, false, List, ◌++◌, length, map, get_or, take, drop, replicate}
use Rattle.std.proofs.Common.{sym, ap, ◌∙◌, subst, refl, arith, inl, inr}
use Rattle.std.specs.Prelude.{ℤ, pos, nat_abs, ◌≤ℤ◌, All}
use Rattle.std.proofs.lemmas.Bool.{cases_order, cases_lt}
use Rattle.std.proofs.lemmas.List.{length-map, get_or_past}
use Rattle.std.proofs.lemmas.Option.{slice_get-get_or}
use Rattle.bitvec.specs.Memory.{bit_of}
use Rattle.bitvec.specs.Span.{Span, Fits, AreDisjoint, BecomesList, element, list_of}
use Rattle.bitvec.specs.Run.{CanRun, IsOutside}
use Rattle.bitvec.proofs.MemoryLemmas.{tabulate-from_elements}
use Rattle.bitvec.proofs.PartLemmas.{element-list_of, length-list_of}
use Rattle.bits_lib.specs.declared.view.Interval.{Interval}
use Rattle.bits_lib.specs.Interval.{interval_span, no_span}

-- the bits of one of several disjoint spans of a memory become those of a list
pub record PartBecomes (bits : ℕ) (at : ℕ → ℕ) (spans : List Span) (part : ℕ) (old new : List ℕ) (xs : List Bool) : Type 0 where
  pub can_run : CanRun bits (λ span. span) spans (length old)
  pub inside : part < length spans
  pub edit : BecomesList bits at (get_or spans part no_span) old new xs

-- a part lies in the memory
pub part_fits : {W : Type 0} {named : Span} (bits : ℕ) (number : W → ℕ) (intervals : List Interval) (part : ℕ) (words : List W)
    → CanRun bits (λ span. span) (map interval_span intervals) (length words)
    → part < length intervals → named ≡ get_or (map interval_span intervals) part no_span
    → Fits bits named (length words) × Fits bits named (length (map number words))
part_fits {named = named} bits number intervals part words can inside is =
    let within : part < length (map interval_span intervals) = omega (arith, inside, length-map intervals interval_span) in
    let fits = subst (λ (s : Span). Fits bits s (length words)) (sym is) (can.0 part no_span within) in
    (fits, subst (λ n. Fits bits named n) (sym (length-map words number)) fits)

-- an edit of the span that is a part is one of the part
pub part_becomes : {W : Type 0} {named : Span} {xs : List Bool} (bits : ℕ) (at : ℕ → ℕ) (number : W → ℕ) (intervals : List Interval) (part : ℕ)
    → (old new : List W) → CanRun bits (λ span. span) (map interval_span intervals) (length old)
    → part < length intervals → named ≡ get_or (map interval_span intervals) part no_span
    → BecomesList bits at named (map number old) (map number new) xs
    → PartBecomes bits at (map interval_span intervals) part (map number old) (map number new) xs
part_becomes {xs = xs} bits at number intervals part old new can inside is edit = record {
  can_run = subst (λ n. CanRun bits (λ span. span) (map interval_span intervals) n) (sym (length-map old number)) can;
  inside = omega (arith, inside, length-map intervals interval_span);
  edit = subst (λ (s : Span). BecomesList bits at s (map number old) (map number new) xs) is edit;
}

module _ (bits : ℕ) (at : ℕ → ℕ) (from to : ℕ) (bit : Bool) (old new : List ℕ) where
  abbrev IsFilled : Span → ℕ → Type 0
  IsFilled span n = list_of bits at span new ≡ take from (list_of bits at span old) ++ replicate n bit ++ drop to (list_of bits at span old)

  -- a range of the span that is a part becomes the same bit throughout, and so that of the part
  pub range_filled : (span part : Span) (n : ℕ) → span ≡ part → n ≡ to - from → IsFilled span n → IsFilled part (to - from)
  range_filled span part n is many filled = subst (λ (s : Span). IsFilled s (to - from)) is (subst (λ m. IsFilled span m) many filled)

module _ {bits : ℕ} {at : ℕ → ℕ} {spans : List Span} {part : ℕ} {old new : List ℕ} {xs : List Bool}
    (is : PartBecomes bits at spans part old new xs) where
  abbrev span_at : ℕ → Span
  span_at s = get_or spans s no_span

  -- another span has no place of the part
  other_apart : (s : ℕ) → s < length spans → s ≢ part → AreDisjoint bits (span_at part) (span_at s)
  other_apart s within differ place here there =
      elim (cases_order s part) [
        | inl e ↦ differ e
        | inr (inl below) ↦ is.can_run.1 s part no_span below is.inside place there here
        | inr (inr above) ↦ is.can_run.1 part s no_span above within place here there
      ]

  pub lists_kept : (s : ℕ) → s ≢ part → list_of bits at (span_at s) new ≡ list_of bits at (span_at s) old
  lists_kept s differ =
      elim (cases_lt s (length spans)) [
        | inl within ↦ (
            let other = span_at s in
            is.edit.apart other.word other.head other.len (is.can_run.0 s no_span within).0 (other_apart s within differ))
        | inr past ↦ let e = get_or_past spans s no_span past in rw e refl
      ]

  pub outside_kept : (place : ℕ) → IsOutside bits (λ span. span) spans place → bit_of bits at new place ≡ bit_of bits at old place
  outside_kept place out = is.edit.others place (out part (span_at part) (slice_get-get_or spans part no_span is.inside))

  pub apart_kept : (word : ℤ) (head len : ℕ) → pos 0 ≤ℤ word
      → All (λ span. AreDisjoint bits span (record { word = word; head = head; len = len })) spans
      → list_of bits at (record { word = word; head = head; len = len }) new ≡ list_of bits at (record { word = word; head = head; len = len }) old
  apart_kept word head len from apart = is.edit.apart word head len from (apart part no_span is.inside)

-- spans with equal lists have one length
pub same_length : (bits : ℕ) (at : ℕ → ℕ) (a b : Span) (words : List ℕ) → list_of bits at a words ≡ list_of bits at b words → a.len ≡ b.len
same_length bits at a b words e = sym (length-list_of bits at a words) ∙ (ap length e ∙ length-list_of bits at b words)

-- spans of one length with equal elements have equal lists
pub equal_lists : (bits : ℕ) (at : ℕ → ℕ) (a b : Span) (words : List ℕ) → a.len ≡ b.len → ((j : ℕ) → j < a.len → element (list_of bits at a words) j ≡ element (list_of bits at b words) j)
    → list_of bits at a words ≡ list_of bits at b words
equal_lists bits at a b words long same =
    tabulate-from_elements (list_of bits at a words) b.len (λ j. bit_of bits at words (nat_abs b.word * bits + b.head + j)) false (length-list_of bits at a words ∙ long) (λ j h. same j (omega (arith, long)) ∙ element-list_of bits at b words j h)
