-- From what spans' commands do alone to what two runs do.
use Rattle.std.proofs.Common.{◌≡◌, ℕ, zero, suc, ◌<◌, List, [], ◌∷◌, length, map, Some, ap, ◌∙◌, sym, refl, subst, inl, inr, arith}
use Rattle.std.specs.Prelude.{slice_get, take, Option, None, All}
use Rattle.std.specs.List.{AllZip, AllByRecursion}
use Rattle.std.specs.Option.{option_map}
use Rattle.std.proofs.lemmas.List.Elements.{All-from_recursion, recursion_from_All}
use Rattle.std.proofs.lemmas.List.{length-map}
use Rattle.std.proofs.lemmas.Option.{none-some, same_Some, slice_get-map, slice_get_cases}
use Rattle.bitvec_span.specs.Span.{Span, Fits, list_of}
use Rattle.bitvec.specs.declared.run.command.Request.{Request}
use Rattle.bitvec.specs.declared.run.command.Reply.{Reply}
use Rattle.bitvec.specs.Laws.{own_replies}
use Rattle.bitvec.specs.Run.{CanRun, IsRun, alone_from, reply_behind}
use Rattle.bitvec.proofs.ReplyLemmas.{own_replies-alone}

-- a list of spans as a list of their numbers
pub at_view : {S T : Type 0} (view : S → T) (xs : List S) (s : ℕ) (x : S) → slice_get xs s ≡ Some x → slice_get (map view xs) s ≡ Some (view x)
at_view view xs s x is = slice_get-map view xs s ∙ ap (option_map view) is

from_view : {S T : Type 0} (view : S → T) (xs : List S) (s : ℕ) (y : T) → slice_get (map view xs) s ≡ Some y → (x : S) × (slice_get xs s ≡ Some x) × (view x ≡ y)
from_view view [] s y is = absurd (none-some y is)
from_view view (x ∷ xs) zero y is = (x, refl, same_Some (view x) y is)
from_view view (x ∷ xs) (suc s) y is = from_view view xs s y is

each_view : {S T : Type 0} (view : S → T) (P : T → Type 0) (xs : List S) → AllByRecursion (λ x. P (view x)) xs → AllByRecursion P (map view xs)
each_view view P [] h = h
each_view view P (x ∷ xs) h = (h.0, each_view view P xs h.1)

pub all_views : {S T : Type 0} (view : S → T) (P : T → Type 0) (xs : List S) → All (λ x. P (view x)) xs → All P (map view xs)
all_views view P xs h = All-from_recursion P (map view xs) (each_view view P xs (recursion_from_All (λ x. P (view x)) xs h))

pub zip_views : {S T A B : Type 0} (view : S → A) (other_view : T → B) (R : A → B → Type 0) (xs : List S) (ys : List T) → AllZip (λ x y. R (view x) (other_view y)) xs ys → AllZip R (map view xs) (map other_view ys)
zip_views view other_view R [] [] h = tt
zip_views view other_view R [] (y ∷ ys) h = absurd h
zip_views view other_view R (x ∷ xs) [] h = absurd h
zip_views view other_view R (x ∷ xs) (y ∷ ys) h = (h.0, zip_views view other_view R xs ys h.1)

pub zip_length : {A B : Type 0} (R : A → B → Type 0) (xs : List A) (ys : List B) → AllZip R xs ys → length xs ≡ length ys
zip_length R [] [] h = refl
zip_length R [] (y ∷ ys) h = absurd h
zip_length R (x ∷ xs) [] h = absurd h
zip_length R (x ∷ xs) (y ∷ ys) h = ap suc (zip_length R xs ys h.1)

zip_pointwise : {A B : Type 0} (R : A → B → Type 0) (xs : List A) (ys : List B) → length xs ≡ length ys → ((s : ℕ) (x : A) (y : B) → slice_get xs s ≡ Some x → slice_get ys s ≡ Some y → R x y) → AllZip R xs ys
zip_pointwise R [] [] long h = tt
zip_pointwise R [] (y ∷ ys) long h = absurd (omega (arith, long))
zip_pointwise R (x ∷ xs) [] long h = absurd (omega (arith, long))
zip_pointwise R (x ∷ xs) (y ∷ ys) long h = (h zero x y refl refl, zip_pointwise R xs ys (omega (arith, long)) (λ s. h (suc s)))

-- spans that fit in a memory of words fit in the memory of their numbers
pub fits_of_views : {S W : Type 0} (bits : ℕ) (view : S → Span) (number : W → ℕ) (spans : List S) (memory : List W) → CanRun bits view spans (length memory) → All (λ span. Fits bits span (length (map number memory))) (map view spans)
fits_of_views bits view number spans memory can =
    all_views view (λ span. Fits bits span (length (map number memory))) spans (subst (λ (n : ℕ). All (λ x. Fits bits (view x) n) spans) (sym (length-map memory number)) can.0)

-- a run through spans is a run through their numbers
pub run_of_views : {S W : Type 0} (number : W → ℕ) (bits : ℕ) (at : ℕ → ℕ) (view : S → Span) (spans : List S) (old new : List ℕ) (requests : List (Request W)) (replies : List (Reply ℕ))
    → IsRun number bits at view spans old requests replies new → IsRun number bits at (λ (x : Span). x) (map view spans) old requests replies new
run_of_views {S} {W} number bits at view spans old new requests replies run =
    let same : (o : Option S) (n : ℕ) (q : Request W) → reply_behind number bits at view old (take n requests) q o ≡ reply_behind number bits at (λ (x : Span). x) old (take n requests) q (option_map view o) =
    λ o n q. elim o as (λ (p : Option S). reply_behind number bits at view old (take n requests) q p ≡ reply_behind number bits at (λ (x : Span). x) old (take n requests) q (option_map view p)) [ None ↦ refl | Some x ↦ refl ] in
    record {
      as_many = run.as_many;
      each = λ n q is. run.each n q is ∙ ap (λ r. Some r) (same (slice_get spans q.span) n q ∙ ap (reply_behind number bits at (λ (x : Span). x) old (take n requests) q) (sym (slice_get-map view spans q.span)));
      placed = record {
        lists = λ s span is. let found = from_view view spans s span is in
            subst (λ (p : Span). list_of bits at p new ≡ (alone_from number bits at p old s requests).1) found.2 (run.placed.lists s found.0 found.1);
        others = λ place out. run.placed.others place (λ s x is. out s (view x) (at_view view spans s x is));
        apart = λ word head len from beside. run.placed.apart word head len from (λ s x is. beside s (view x) (at_view view spans s x is));
        as_many_words = run.placed.as_many_words;
      };
    }

module _ {S T V W : Type 0} (P : Reply ℕ → Reply ℕ → Type 0) (number : V → ℕ) (other_number : W → ℕ) (bits other_bits : ℕ) (at other_at : ℕ → ℕ) (view : S → Span) (other_view : T → Span) (spans : List S) (other_spans : List T)
    (old here other_old there : List ℕ) (requests : List (Request V)) (other_requests : List (Request W)) (replies other_replies : List (Reply ℕ))
    (run : IsRun number bits at view spans old requests replies here) (other_run : IsRun other_number other_bits other_at other_view other_spans other_old other_requests other_replies there)
    (long : length spans ≡ length other_spans)
    (agree : (s : ℕ) (x : S) (y : T) → slice_get spans s ≡ Some x → slice_get other_spans s ≡ Some y
    → let one = alone_from number bits at (view x) old s requests in let other = alone_from other_number other_bits other_at (other_view y) other_old s other_requests in
    AllZip P one.0 other.0 × (one.1 ≡ other.1)) where
  replies_at : (s : ℕ) (x : S) (y : T) → slice_get spans s ≡ Some x → slice_get other_spans s ≡ Some y → AllZip P (own_replies s requests replies) (own_replies s other_requests other_replies)
  replies_at s x y is it =
      let mine = own_replies-alone number bits at view spans old here requests replies run s x is in
      let theirs = own_replies-alone other_number other_bits other_at other_view other_spans other_old there other_requests other_replies other_run s y it in
      rw (mine, theirs) (agree s x y is it).0

  -- what holds of each span's replies alone holds of its replies in the two runs
  pub carried_replies : (s : ℕ) → s < length spans → AllZip P (own_replies s requests replies) (own_replies s other_requests other_replies)
  carried_replies s within =
      elim ((slice_get_cases spans s).1) [
        | inl x ↦ elim ((slice_get_cases other_spans s).1) [ inl y ↦ replies_at s x.0 y.0 x.2 y.2 | inr past ↦ absurd (omega (arith, past.0, within, long)) ]
        | inr past ↦ absurd (omega (arith, past.0, within))
      ]

  -- and its lists are equal after them
  pub carried_lists : AllZip (λ x y. list_of bits at (view x) here ≡ list_of other_bits other_at (other_view y) there) spans other_spans
  carried_lists =
      zip_pointwise (λ x y. list_of bits at (view x) here ≡ list_of other_bits other_at (other_view y) there) spans other_spans long
      (λ s x y is it. run.placed.lists s x is ∙ (agree s x y is it).1 ∙ sym (other_run.placed.lists s y it))

-- what holds of two spans' numbers holds of the spans
pub of_views : {S T : Type 0} (Q : ℕ → Span → Span → Type 0) (view : S → Span) (other_view : T → Span) (spans : List S) (other_spans : List T)
    → ((s : ℕ) (a b : Span) → slice_get (map view spans) s ≡ Some a → slice_get (map other_view other_spans) s ≡ Some b → Q s a b)
    → (s : ℕ) (x : S) (y : T) → slice_get spans s ≡ Some x → slice_get other_spans s ≡ Some y → Q s (view x) (other_view y)
of_views Q view other_view spans other_spans all s x y is it = all s (view x) (other_view y) (at_view view spans s x is) (at_view other_view other_spans s y it)
