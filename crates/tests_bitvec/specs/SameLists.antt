-- Spans of two memories, and what two runs answer.
use Rattle.std.specs.Prelude.{◌≡◌, ℕ, ◌<◌, List}
use Rattle.std.specs.List.{AllZip}
use Rattle.bitvec.specs.Commands.{reply_numbers}
use Rattle.bitvec.specs.Span.{Span, list_of}
use Rattle.bitvec.specs.Laws.{own_replies, AreSameReplies}
use Rattle.bitvec.specs.declared.run.command.Request.{Request}
use Rattle.bitvec.specs.declared.run.command.Reply.{Reply}

-- span s of one list has the same bits in a memory as span s of another has in another memory
abbrev pub HaveSameLists : {S T : Type 0} → ℕ → (ℕ → ℕ) → (S → Span) → List S → List ℕ → ℕ → (ℕ → ℕ) → (T → Span) → List T → List ℕ → Type 0
HaveSameLists bits at view spans words other_bits other_at other_view others other_words =
    AllZip (λ span other. list_of bits at (view span) words ≡ list_of other_bits other_at (other_view other) other_words) spans others

-- the replies of two runs to each of `count` spans are the same, one by one, up to a relation between the numbers in them
abbrev pub RepliesAgree : {V W : Type 0} → (ℕ → ℕ → Type 0) → ℕ → (V → ℕ) → List (Request V) → List (Reply V) → (W → ℕ) → List (Request W) → List (Reply W) → Type 0
RepliesAgree Same count number requests replies other_number others other_replies =
    (s : ℕ) → s < count → AllZip (AreSameReplies Same) (own_replies s requests (reply_numbers number replies)) (own_replies s others (reply_numbers other_number other_replies))
