-- Runs that are made of two calls, or of an edit and a call. `number` gives the number of a word, `bits` its width, `at` takes an
-- index in a word to its position in the number, and `view` shows a span.
use Rattle.std.specs.Prelude.{◌≡◌, ℕ, true, List, ◌∷◌, ◌++◌, map, Some, slice_get}
use Rattle.bitvec.specs.Span.{Span}
use Rattle.bitvec.specs.Commands.{reply_numbers}
use Rattle.bitvec.specs.Run.{IsRun}
use Rattle.bitvec.specs.declared.run.command.Request.{Request}
use Rattle.bitvec.specs.declared.run.command.Command.TheVariants.{Fill}
use Rattle.bitvec.specs.declared.run.command.Reply.{Reply}
use Rattle.bitvec.specs.declared.run.command.Reply.TheVariants.{Done}

-- a run of two lists of requests, with two lists of replies
abbrev pub IsRunOfBoth : {S W : Type 0} → (W → ℕ) → ℕ → (ℕ → ℕ) → (S → Span) → List S → (old : List W) → (requests more : List (Request W)) → (replies others : List (Reply W)) → (new : List W) → Type 0
IsRunOfBoth number bits at view spans old requests more replies others new =
    IsRun number bits at view spans (map number old) (requests ++ more) (reply_numbers number replies ++ reply_numbers number others) (map number new)

-- a run whose first request fills the first span, where there is one; the others are `requests`, with `replies`
abbrev pub IsRunFromFill : {S W : Type 0} → (W → ℕ) → ℕ → (ℕ → ℕ) → (S → Span) → List S → (old : List W) → List (Request W) → List (Reply W) → (new : List W) → Type 0
IsRunFromFill {S} number bits at view spans old requests replies new =
    (span : S) → slice_get spans 0 ≡ Some span
    → IsRun number bits at view spans (map number old) (record { span = 0; command = Fill 0 (view span).len true } ∷ requests) (Done ∷ reply_numbers number replies) (map number new)
