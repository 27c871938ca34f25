-- A span's replies in a run, in order: those that its own commands give on its list alone.
use Rattle.std.proofs.Common.{◌≡◌, ℕ, suc, Bool, cond, eqb, List, [], ◌∷◌, length, take, ap, ◌∙◌, refl, subst, Some, inl, inr, arith}
use Rattle.std.specs.Prelude.{slice_get, Option}
use Rattle.std.proofs.lemmas.Bool.{cases_Bool, eqb-true}
use Rattle.std.proofs.lemmas.Option.{same_Some}
use Rattle.bitvec_span.specs.Span.{Span, list_of}
use Rattle.bitvec.specs.declared.run.command.Request.{Request}
use Rattle.bitvec.specs.declared.run.command.Reply.{Reply}
use Rattle.bitvec.specs.Commands.{outcome, reply_in, list_in, alone, own_commands}
use Rattle.bitvec.specs.Laws.{own_replies}
use Rattle.bitvec.specs.Run.{IsRun, alone_from, reply_behind}

module _ {W : Type 0} (number : W → ℕ) (bits : ℕ) (at : ℕ → ℕ) (head s : ℕ) where
  -- the reply to a command behind the span's own among some requests
  abbrev reply_after : List (Request W) → List Bool → Request W → Reply ℕ
  reply_after before xs request = reply_in (outcome number bits at head request.command (alone number bits at head (own_commands s before) xs).1)

  replies_from_each : (qs : List (Request W)) (rs : List (Reply ℕ)) (xs : List Bool) → length rs ≡ length qs
      → ((n : ℕ) (q : Request W) → slice_get qs n ≡ Some q → q.span ≡ s → slice_get rs n ≡ Some (reply_after (take n qs) xs q))
      → own_replies s qs rs ≡ (alone number bits at head (own_commands s qs) xs).0
  replies_from_each [] [] xs many each = refl
  replies_from_each [] (r ∷ rs) xs many each = absurd (omega (arith, many))
  replies_from_each (p ∷ qs) [] xs many each = absurd (omega (arith, many))
  replies_from_each (p ∷ qs) (r ∷ rs) xs many each =
      elim (cases_Bool (eqb p.span s)) [
        | inl here ↦ (
            let first = same_Some r (reply_after [] xs p) (each 0 p refl (eqb-true p.span s here)) in
            let rest = replies_from_each qs rs (list_in xs (outcome number bits at head p.command xs)) (omega (arith, many)) (λ n q is named.
            subst (λ b. slice_get rs n ≡ Some (reply_in (outcome number bits at head q.command (alone number bits at head (cond b (p.command ∷ own_commands s (take n qs)) (own_commands s (take n qs))) xs).1))) here
            (each (suc n) q is named)) in
            rw here (ap (λ t. t ∷ own_replies s qs rs) first ∙ ap (λ ts. reply_after [] xs p ∷ ts) rest))
        | inr there ↦ (
            let rest = replies_from_each qs rs xs (omega (arith, many)) (λ n q is named.
            subst (λ b. slice_get rs n ≡ Some (reply_in (outcome number bits at head q.command (alone number bits at head (cond b (p.command ∷ own_commands s (take n qs)) (own_commands s (take n qs))) xs).1))) there
            (each (suc n) q is named)) in
            rw there rest)
      ]

-- each span's replies, in order, are those that its own commands give on its list alone
abbrev pub AreOwnReplies : {S W : Type 0} → (W → ℕ) → ℕ → (ℕ → ℕ) → (S → Span) → List S → List ℕ
    → List (Request W) → List (Reply ℕ) → Type 0
AreOwnReplies {S} number bits at view spans old requests replies =
    (s : ℕ) (span : S) → slice_get spans s ≡ Some span
    → own_replies s requests replies ≡ (alone_from number bits at (view span) old s requests).0

-- in a run each span's replies are those
pub own_replies-alone : {S W : Type 0} (number : W → ℕ) (bits : ℕ) (at : ℕ → ℕ) (view : S → Span)
    (spans : List S) (old new : List ℕ) (requests : List (Request W)) (replies : List (Reply ℕ))
    → IsRun number bits at view spans old requests replies new
    → AreOwnReplies number bits at view spans old requests replies
own_replies-alone {S} number bits at view spans old new requests replies run = λ s span is.
    replies_from_each number bits at (view span).head s requests replies (list_of bits at (view span) old) run.as_many (λ n q is_q named.
    let found : slice_get spans q.span ≡ Some span = ap (slice_get spans) named ∙ is in
    run.each n q is_q
    ∙ ap (λ (o : Option S). Some (reply_behind number bits at view old (take n requests) q o)) found
    ∙ ap (λ t. Some (reply_in (outcome number bits at (view span).head q.command (alone_from number bits at (view span) old t (take n requests)).1))) named)
