-- Spans of one memory, by their numbers.
use Rattle.std.proofs.Common.{◌≡◌, ℕ, ◌+◌, ◌<◌, ◌≤◌, List, length, map, get_or, sym, ap, ◌∙◌, subst, arith, inl, inr}
use Rattle.std.specs.Prelude.{All, slice_set}
use Rattle.std.proofs.Math.ListN.{length-set}
use Rattle.std.proofs.Math.Seq.{ext_get_or}
use Rattle.std.proofs.lemmas.Bool.{cases_eq}
use Rattle.std.proofs.lemmas.List.{length-map, get_or-map, get_or-set_same, get_or-set_other}
use Rattle.bitvec.specs.Span.{Span, Fits, AreDisjoint}
use Rattle.bitvec.specs.Run.{CanRun}
use Rattle.bitvec.proofs.LawLemmas.{all_views}
use Rattle.bits_lib.specs.declared.view.Interval.{Interval}
use Rattle.bits_lib.specs.Interval.{interval_span, no_span, IsSpan}

-- spans that can be run can be run by their numbers
pub can_run_views : {S : Type 0} (bits : ℕ) (view : S → Span) (spans : List S) (none : S) (words : ℕ) → CanRun bits view spans words → CanRun bits (λ span. span) (map view spans) words
can_run_views bits view spans none words can =
    let long = length-map spans view in (
      all_views view (λ span. Fits bits span words) spans can.0,
      λ a b d less below.
          let later : b < length spans = omega (arith, long, below) in
          let at_a = get_or-map view spans a none d (omega arith) in
          let at_b = get_or-map view spans b none d later in
          subst (λ x. AreDisjoint bits x (get_or (map view spans) b d)) (sym at_a) (subst (λ y. AreDisjoint bits (view (get_or spans a none)) y) (sym at_b) (can.1 a b none less later)),
    )

-- the numbers of an interval are a span's where all are
pub valid_at : (bits : ℕ) (intervals : List Interval) → All (IsSpan bits) (map interval_span intervals) → (s : ℕ) (d : Interval) → s < length intervals → IsSpan bits (interval_span (get_or intervals s d))
valid_at bits intervals valid s d inside =
    let long = length-map intervals interval_span in
    subst (λ x. IsSpan bits x) (get_or-map interval_span intervals s d no_span inside) (valid s no_span (omega (arith, long)))

-- two lists are of one length, and their first `count` elements stand for the same spans
pub record HaveSameSpans {S T : Type 0} (view : S → Span) (other_view : T → Span)
    (xs : List S) (ys : List T) (count : ℕ) : Type 0 where
  pub same : (j : ℕ) → j < count
      → get_or (map view xs) j no_span ≡ get_or (map other_view ys) j no_span
  pub many : length xs ≡ length ys

-- one more interval has the numbers of its span
pub more_views : {S T : Type 0} (view : S → Span) (other_view : T → Span)
    (xs : List S) (ys : List T) (i : ℕ) (new : S) (found : T)
    → i < length ys → view new ≡ other_view (get_or ys i found)
    → HaveSameSpans view other_view xs ys i
    → HaveSameSpans view other_view (slice_set xs i new) ys (i + 1)
more_views view other_view xs ys i new found in_ys is before =
    let long = length-set xs i new in
    let in_xs : i < length xs = omega (arith, in_ys, before.many) in
    record {
      same = λ j below. elim (cases_eq j i) [
        | inl e ↦ rw e
            (get_or-map view (slice_set xs i new) i new no_span (omega (arith, long, in_xs))
            ∙ ap view (get_or-set_same xs i new new in_xs)
            ∙ is
            ∙ sym (get_or-map other_view ys i found no_span in_ys))
        | inr differ ↦ (
            let less : j < i = omega arith in
            get_or-map view (slice_set xs i new) j new no_span (omega (arith, long, in_xs))
            ∙ ap view (get_or-set_other xs i j new new differ)
            ∙ sym (get_or-map view xs j new no_span (omega (arith, in_xs)))
            ∙ before.same j less)
      ];
      many = long ∙ before.many;
    }

-- all of them do
pub all_same : {S T : Type 0} (view : S → Span) (other_view : T → Span)
    (xs : List S) (ys : List T) (count : ℕ) → length ys ≤ count
    → HaveSameSpans view other_view xs ys count → map view xs ≡ map other_view ys
all_same view other_view xs ys count all before =
    let here = length-map xs view in
    let there = length-map ys other_view in
    ext_get_or no_span (map view xs) (map other_view ys) (here ∙ before.many ∙ sym there)
    (λ j h. before.same j (omega (arith, here, h, all, before.many)))
