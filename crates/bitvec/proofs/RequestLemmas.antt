-- One request: a step on the span that it names, or none.
use Rattle.std.proofs.Common.{◌≡◌, ◌≢◌, ℕ, zero, suc, ◌≤◌, List, [], ◌∷◌, length, arith, sym, ◌∙◌, ap, Some, refl, subst, inl, inr}
use Rattle.std.specs.Prelude.{slice_get, take, AllPairs}
use Rattle.std.proofs.lemmas.Bool.{cases_order, cases_eq, eq-eqb, ne_eqb}
use Rattle.std.proofs.lemmas.Option.{none-some, same_Some, get_or_from_slice_get, slice_get_within, slice_get_past}
use Rattle.bitvec_span.specs.Span.{Span, Covers, Fits, AreDisjoint, list_of}
use Rattle.bitvec.specs.declared.run.command.Request.{Request}
use Rattle.bitvec.specs.declared.run.command.Reply.{Reply}
use Rattle.bitvec.specs.declared.run.command.Reply.TheVariants.{NoSpan}
use Rattle.bitvec.specs.Run.{CanRun, IsRun, IsStep, reply_behind}

-- each span fits
pub fits_at : {S : Type 0} (bits : ℕ) (view : S → Span) (spans : List S) (words s : ℕ) (span : S) → CanRun bits view spans words → slice_get spans s ≡ Some span → Fits bits (view span) words
fits_at bits view spans words s span can is =
    subst (λ x. Fits bits (view x) words) (get_or_from_slice_get spans s span span is) (can.0 s span (slice_get_within spans s span is))

-- spans of different numbers are disjoint
pub apart_at : {S : Type 0} (bits : ℕ) (view : S → Span) (spans : List S) (s t : ℕ) (a b : S)
    → AllPairs (λ x y. AreDisjoint bits (view x) (view y)) spans
    → slice_get spans s ≡ Some a → slice_get spans t ≡ Some b → s ≢ t
    → AreDisjoint bits (view a) (view b)
apart_at bits view spans s t a b apart is it differ =
    let at_s = get_or_from_slice_get spans s a a is in
    let at_t = get_or_from_slice_get spans t b a it in
    λ place in_a in_b.
    let here = subst (λ x. Covers bits (view x) place) (sym at_s) in_a in
    let there = subst (λ x. Covers bits (view x) place) (sym at_t) in_b in
    elim (cases_order s t) [
      | inl e ↦ differ e
      | inr (inl below) ↦ apart s t a below (slice_get_within spans t b it) place here there
      | inr (inr above) ↦ apart t s a above (slice_get_within spans s a is) place there here
    ]

-- of one request, the one at a number is that one
only_one : {A : Type 0} (x y : A) (n : ℕ) → slice_get (x ∷ []) n ≡ Some y → (n ≡ 0) × (x ≡ y)
only_one x y zero is = (refl, same_Some x y is)
only_one x y (suc n) is = absurd (none-some y is)

-- the reply to the only request
one_reply : {S W : Type 0} (number : W → ℕ) (bits : ℕ) (at : ℕ → ℕ) (view : S → Span) (spans : List S) (old : List ℕ) (request : Request W) (reply : Reply ℕ)
    → reply ≡ reply_behind number bits at view old [] request (slice_get spans request.span)
    → (n : ℕ) (other : Request W) → slice_get (request ∷ []) n ≡ Some other
    → slice_get (reply ∷ []) n ≡ Some (reply_behind number bits at view old (take n (request ∷ [])) other (slice_get spans other.span))
one_reply number bits at view spans old request reply is n other found =
    let one = only_one request other n found in let at_0 = one.0 in let same = one.1 in
    rw (at_0, ← same) (ap (λ r. Some r) is)

-- the request names a span, and its command's step through that span gets the reply, and makes the
-- memory `new` of `old`
pub record IsRequestStep {S W : Type 0} (number : W → ℕ) (bits : ℕ) (at : ℕ → ℕ) (view : S → Span)
    (spans : List S) (old : List ℕ) (request : Request W) (reply : Reply ℕ)
    (new : List ℕ) : Type 0 where
  pub named : S
  pub is_named : slice_get spans request.span ≡ Some named
  pub step : IsStep number bits at (view named) old request.command reply new

-- a step through the span that the request names is a run of that request
pub run-one : {S W : Type 0} (number : W → ℕ) (bits : ℕ) (at : ℕ → ℕ) (view : S → Span)
    (spans : List S) (old new : List ℕ) (request : Request W) (reply : Reply ℕ)
    → CanRun bits view spans (length old)
    → IsRequestStep number bits at view spans old request reply new
    → IsRun number bits at view spans old (request ∷ []) (reply ∷ []) new
run-one {S} number bits at view spans old new request reply can one =
    let named = one.named in
    let named_is = one.is_named in
    let step = one.step in
    let same : (span : S) → (s : ℕ) → slice_get spans s ≡ Some span → request.span ≡ s → named ≡ span =
    λ span s is e. same_Some named span (sym named_is ∙ (ap (slice_get spans) e ∙ is)) in
    let kept : (span : S) → (s : ℕ) → slice_get spans s ≡ Some span → request.span ≢ s → list_of bits at (view span) new ≡ list_of bits at (view span) old =
    λ span s is differ. step.becomes.apart (view span).word (view span).head (view span).len (fits_at bits view spans (length old) s span can is).0
    (apart_at bits view spans request.span s named span can.1 named_is is differ) in
    record {
      as_many = refl;
      each = one_reply number bits at view spans old request reply (step.answered ∙ sym (ap (reply_behind number bits at view old [] request) named_is));
      placed = record {
        lists = λ s span is. elim (cases_eq request.span s) [
          | inl e ↦ let t = eq-eqb request.span s e in let n = same span s is e in rw (t, ← n) step.becomes.list
          | inr differ ↦ let t = ne_eqb request.span s differ in rw t (kept span s is differ)
        ];
        others = λ place out. step.becomes.others place (out request.span named named_is);
        apart = λ word head len from beside. step.becomes.apart word head len from (beside request.span named named_is);
        as_many_words = step.becomes.words;
      };
    }

-- a request that names no span is answered so, and changes nothing
pub run-no_span : {S W : Type 0} (number : W → ℕ) (bits : ℕ) (at : ℕ → ℕ) (view : S → Span) (spans : List S) (memory : List ℕ) (request : Request W) → length spans ≤ request.span
    → IsRun number bits at view spans memory (request ∷ []) (NoSpan ∷ []) memory
run-no_span number bits at view spans memory request past = record {
  as_many = refl;
  each = one_reply number bits at view spans memory request NoSpan (sym (ap (reply_behind number bits at view memory [] request) (slice_get_past spans request.span past)));
  placed = record {
    lists = λ s span is. let t = ne_eqb request.span s (λ e. omega (arith, slice_get_within spans s span is)) in rw t refl;
    others = λ place out. refl;
    apart = λ word head len from beside. refl;
    as_many_words = refl;
  };
}
