-- Runs through one span. `number` gives the number of a word, `bits` its width, `at` takes an index in a word to its position in
-- the number, and `view` shows a span.
use Rattle.std.specs.Prelude.{ℕ, Bool, List, [], ◌∷◌, map}
use Rattle.bitvec.specs.Span.{Span, element, list_of}
use Rattle.bitvec.specs.Commands.{reply_number}
use Rattle.bitvec.specs.Run.{IsRun}
use Rattle.bitvec.specs.declared.run.command.Request.{Request}
use Rattle.bitvec.specs.declared.run.command.Command.TheVariants.{Replace}
use Rattle.bitvec.specs.declared.run.command.Reply.{Reply}
use Rattle.bitvec.specs.declared.run.command.Reply.TheVariants.{Bit}

-- a run whose first request replaces bit i of the span, and is answered by the bit that was there; the others are
-- `requests`, with `replies`
abbrev pub IsRunFromReplace : {S W : Type 0} → (W → ℕ) → ℕ → (ℕ → ℕ) → (S → Span) → S → ℕ → Bool → List W → List (Request W) → List (Reply W) → List W → Type 0
IsRunFromReplace number bits at view span i bit old requests replies new =
    IsRun number bits at view (span ∷ []) (map number old) (record { span = 0; command = Replace i bit } ∷ requests)
    (Bit (element (list_of bits at (view span) (map number old)) i) ∷ map (reply_number number) replies) (map number new)
