-- Laws of runs: how commands of different spans stand among each other does not matter, and runs join and are cut.
use Rattle.std.specs.Prelude.{ℕ, ◌^◌, ◌<◌, ◌≡◌, List, ◌++◌, length, All}
use Rattle.bitvec.specs.Span.{Span, Fits}
use Rattle.bitvec.specs.declared.run.command.Request.{Request}
use Rattle.bitvec.specs.declared.run.command.Reply.{Reply}
use Rattle.bitvec.specs.Laws.{HaveSameOwnCommands, HaveSameOwnReplies}
use Rattle.bitvec.specs.Run.{CanRun, IsRun}

-- two runs from one memory, whose requests give each span the same commands in the same order, get each span the same
-- replies and end in the same memory
abbrev pub OrderBetweenSpansDoesNotMatter : {W : Type 0} → (W → ℕ) → ℕ → (ℕ → ℕ) → Type 0
OrderBetweenSpansDoesNotMatter {W} number bits at =
    (spans : List Span) (old here there : List ℕ) (requests other_requests : List (Request W)) (replies other_replies : List (Reply ℕ))
    → All (λ span. Fits bits span (length old)) spans → All (λ word. word < 2 ^ bits) here → All (λ word. word < 2 ^ bits) there
    → HaveSameOwnCommands (length spans) requests other_requests
    → IsRun number bits at (λ span. span) spans old requests replies here → IsRun number bits at (λ span. span) spans old other_requests other_replies there
    → HaveSameOwnReplies (length spans) requests replies other_requests other_replies × (here ≡ there)

-- a run that goes on by another is the run of both lists of requests
abbrev pub RunsJoin : {W : Type 0} → (W → ℕ) → ℕ → (ℕ → ℕ) → Type 0
RunsJoin {W} number bits at =
    (spans : List Span) (old mid new : List ℕ) (requests more : List (Request W)) (replies others : List (Reply ℕ))
    → IsRun number bits at (λ span. span) spans old requests replies mid → IsRun number bits at (λ span. span) spans mid more others new
    → IsRun number bits at (λ span. span) spans old (requests ++ more) (replies ++ others) new

-- a run of two lists of requests is a run of the first, which a run of the second goes on from
abbrev pub RunsAreCut : {W : Type 0} → (W → ℕ) → ℕ → (ℕ → ℕ) → Type 0
RunsAreCut {W} number bits at =
    (spans : List Span) (old new : List ℕ) (requests more : List (Request W)) (replies others : List (Reply ℕ))
    → CanRun bits (λ span. span) spans (length old) → length replies ≡ length requests
    → IsRun number bits at (λ span. span) spans old (requests ++ more) (replies ++ others) new
    → (mid : List ℕ) × IsRun number bits at (λ span. span) spans old requests replies mid × IsRun number bits at (λ span. span) spans mid more others new
