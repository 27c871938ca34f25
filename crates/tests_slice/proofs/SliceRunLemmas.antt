-- An edit of a slice, and a run of its span behind it.
use Rattle.std.proofs.Common.{◌≡◌, ℕ, ◌<◌, Bool, List, [], ◌∷◌, length, subst, refl, arith}
use Rattle.std.specs.Prelude.{slice_set}
use Rattle.std.proofs.lemmas.List.Elements.{All-nil, All-cons}
use Rattle.std.proofs.lemmas.List.Kept.{AllPairs-cons}
use Rattle.bitvec.specs.Span.{Span, Fits, AreDisjoint, BecomesList, element, list_of}
use Rattle.bitvec.specs.Run.{CanRun, IsRun}
use Rattle.bitvec.specs.declared.run.command.Command.TheVariants.{Replace}
use Rattle.bitvec.specs.declared.run.command.Request.{Request}
use Rattle.bitvec.specs.declared.run.command.Reply.{Reply}
use Rattle.bitvec.specs.declared.run.command.Reply.TheVariants.{Bit}
use Rattle.bitvec.proofs.CommandLemmas.{step-replace}
use Rattle.bitvec.proofs.RequestLemmas.{run-one}

-- one span that fits can be run through
one_can_run : {S : Type 0} (bits : ℕ) (view : S → Span) (span : S) (words : ℕ) → Fits bits (view span) words → CanRun bits view (span ∷ []) words
one_can_run {S} bits view span words fits =
    let Lies : S → Type 0 = λ x. Fits bits (view x) words in
    let Apart : S → S → Type 0 = λ x y. AreDisjoint bits (view x) (view y) in (
      All-cons Lies span [] fits (All-nil Lies),
      AllPairs-cons Apart span [] (All-nil (Apart span)) (λ i j e l h. absurd (omega (arith, h))),
    )

-- a bit of a span that was set is a run of that one request
pub set-one : {S W : Type 0} (number : W → ℕ) (bits : ℕ) (at : ℕ → ℕ) (view : S → Span) (span : S)
    (old mid : List ℕ) (i : ℕ) (bit : Bool)
    → Fits bits (view span) (length old) → i < (view span).len
    → BecomesList bits at (view span) old mid (slice_set (list_of bits at (view span) old) i bit)
    → IsRun number bits at view (span ∷ []) old (record { span = 0; command = Replace i bit } ∷ [])
    (Bit (element (list_of bits at (view span) old) i) ∷ []) mid
set-one number bits at view span old mid i bit fits inside edit =
    let got = element (list_of bits at (view span) old) i in
    run-one number bits at view (span ∷ []) old mid
    (record { span = 0; command = Replace i bit }) (Bit got)
    (one_can_run bits view span (length old) fits)
    (record {
      named = span;
      is_named = refl;
      step = step-replace number bits at (view span) old mid i bit got inside refl edit;
    })

-- an edit of a span that equals this one, in equal words, is an edit of this span
pub set-as : (bits : ℕ) (at : ℕ → ℕ) (given span : Span) (words old mid : List ℕ)
    (i : ℕ) (bit : Bool)
    → BecomesList bits at given words mid (slice_set (list_of bits at given words) i bit)
    → given ≡ span → words ≡ old
    → BecomesList bits at span old mid (slice_set (list_of bits at span old) i bit)
set-as bits at given span words old mid i bit edit is_span is_words =
    subst (λ (s : Span). BecomesList bits at s old mid (slice_set (list_of bits at s old) i bit))
    is_span
    (subst
    (λ (ws : List ℕ). BecomesList bits at given ws mid (slice_set (list_of bits at given ws) i bit))
    is_words edit)

-- a run that begins in equal words
pub run-from : {S W : Type 0} (number : W → ℕ) (bits : ℕ) (at : ℕ → ℕ) (view : S → Span)
    (spans : List S) (from mid new : List ℕ)
    (requests : List (Request W)) (replies : List (Reply ℕ))
    → IsRun number bits at view spans from requests replies new → from ≡ mid
    → IsRun number bits at view spans mid requests replies new
run-from number bits at view spans from mid new requests replies run is =
    subst (λ (ws : List ℕ). IsRun number bits at view spans ws requests replies new) is run
