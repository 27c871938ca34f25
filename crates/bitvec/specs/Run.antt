-- Runs of requests through spans of one memory: each span's list goes its own way. `bits` is the width of a word, `at`
-- takes an index in a word to its position in the number, `number` gives the number of a word, and a memory is the list of
-- its words' numbers.
use Rattle.std.specs.Prelude.{ℕ, ℤ, pos, nat_abs, ◌+◌, ◌*◌, ◌≤◌, ◌≤ℤ◌, ◌≡◌, Bool, List, length, take, slice_get, Option, Some, None, All, AllPairs}
use Rattle.std.specs.List.{range_with_len}
use Rattle.std.specs.List.Sorted.{IsPermutation}
use Rattle.bitvec_ptr.specs.Memory.{bit_of}
use Rattle.bitvec_span.specs.Span.{Span, Fits, Covers, AreDisjoint, BecomesList, list_of}
use Rattle.bitvec.specs.declared.run.command.Command.{Command}
use Rattle.bitvec.specs.declared.run.command.Request.{Request}
use Rattle.bitvec.specs.declared.run.command.Reply.{Reply}
use Rattle.bitvec.specs.declared.run.command.Reply.TheVariants.{NoSpan}
use Rattle.bitvec.specs.Commands.{outcome, reply_in, list_in, alone, own_commands}

-- all spans lie within `words` words, and no two have a place in common; `view` gives a span's numbers
abbrev pub CanRun : {S : Type 0} → ℕ → (S → Span) → List S → ℕ → Type 0
CanRun bits view spans words = All (λ span. Fits bits (view span) words) spans × AllPairs (λ a b. AreDisjoint bits (view a) (view b)) spans

-- the numbers of an element of a list, or those of no bits at place 0 where there is none
abbrev pub span_or_empty : {S : Type 0} → (S → Span) → Option S → Span
span_or_empty view None = record { word = pos 0; head = 0; len = 0 }
span_or_empty view (Some span) = view span

-- the numbers of the span at an index
abbrev pub span_in : {S : Type 0} → (S → Span) → List S → ℕ → Span
span_in view spans i = span_or_empty view (slice_get spans i)

-- the number in a memory of the first bit of the span at an index, which lies in the memory
abbrev pub start_in : {S : Type 0} → ℕ → (S → Span) → List S → ℕ → ℕ
start_in bits view spans i = nat_abs (span_in view spans i).word * bits + (span_in view spans i).head

-- A list of numbers is those of the spans, each once, in an order in which the numbers of their first bits rise.
pub record IsRising {S : Type 0} (bits : ℕ) (view : S → Span) (spans : List S) (order : List ℕ) : Type 0 where
  pub each : IsPermutation (range_with_len 0 (length spans)) order
  pub rises : AllPairs (λ i j. start_in bits view spans i ≤ start_in bits view spans j) order

-- One command through a span of a memory: the reply is the command's own, and the span's list becomes the one that the
-- command leaves, with all else as before.
pub record IsStep {W : Type 0} (number : W → ℕ) (bits : ℕ) (at : ℕ → ℕ) (span : Span) (old : List ℕ) (command : Command W) (reply : Reply ℕ) (new : List ℕ) : Type 0 where
  pub answered : reply ≡ reply_in (outcome number bits at span.head command (list_of bits at span old))
  pub becomes : BecomesList bits at span old new (list_in (list_of bits at span old) (outcome number bits at span.head command (list_of bits at span old)))

-- what the commands of the requests that name span s give on the span's list in a memory, alone
abbrev pub alone_from : {W : Type 0} → (W → ℕ) → ℕ → (ℕ → ℕ) → Span → List ℕ → ℕ → List (Request W) → List (Reply ℕ) × List Bool
alone_from number bits at span words s requests = alone number bits at span.head (own_commands s requests) (list_of bits at span words)

-- the reply to a request behind others, from the memory before them: what its command gives on its span's list as the
-- span's own commands among the others have left it, and `NoSpan` where there is no such span
abbrev pub reply_behind : {S W : Type 0} → (W → ℕ) → ℕ → (ℕ → ℕ) → (S → Span) → List ℕ → List (Request W) → Request W → Option S → Reply ℕ
reply_behind number bits at view words others request None = NoSpan
reply_behind number bits at view words others request (Some span) =
    reply_in (outcome number bits at (view span).head request.command (alone_from number bits at (view span) words request.span others).1)

-- the place lies in none of the spans
abbrev pub IsOutside : {S : Type 0} → ℕ → (S → Span) → List S → ℕ → Type 0
IsOutside {S} bits view spans place = (s : ℕ) (span : S) → slice_get spans s ≡ Some span → ¬ Covers bits (view span) (pos place)

-- no place lies both in one of the spans and in the other one
abbrev pub IsBeside : {S : Type 0} → ℕ → (S → Span) → List S → Span → Type 0
IsBeside {S} bits view spans other = (s : ℕ) (span : S) → slice_get spans s ≡ Some span → AreDisjoint bits (view span) other

-- The memory `new` is `old` with lists put in the places of the spans: each span has its list, and every other bit is as
-- before, so the list of every span that is disjoint from them all.
pub record IsPlaced {S : Type 0} (bits : ℕ) (at : ℕ → ℕ) (view : S → Span) (spans : List S) (list_for : ℕ → S → List Bool) (old new : List ℕ) : Type 0 where
  pub lists : (s : ℕ) (span : S) → slice_get spans s ≡ Some span → list_of bits at (view span) new ≡ list_for s span
  pub others : (place : ℕ) → IsOutside bits view spans place → bit_of bits at new place ≡ bit_of bits at old place
  pub apart : (word : ℤ) (head len : ℕ) → pos 0 ≤ℤ word
      → IsBeside bits view spans (record { word = word; head = head; len = len })
      → list_of bits at (record { word = word; head = head; len = len }) new ≡ list_of bits at (record { word = word; head = head; len = len }) old
  pub as_many_words : length new ≡ length old

-- The requests got the replies, and made the memory `new` of `old`: each reply is what its command gives on its span's
-- list as the span's own commands before it have left it, and the lists that all leave are in their places.
pub record IsRun {S W : Type 0} (number : W → ℕ) (bits : ℕ) (at : ℕ → ℕ) (view : S → Span) (spans : List S) (old : List ℕ) (requests : List (Request W)) (replies : List (Reply ℕ)) (new : List ℕ) : Type 0 where
  pub as_many : length replies ≡ length requests
  pub each : (n : ℕ) (request : Request W) → slice_get requests n ≡ Some request
      → slice_get replies n ≡ Some (reply_behind number bits at view old (take n requests) request (slice_get spans request.span))
  pub placed : IsPlaced bits at view spans (λ s span. (alone_from number bits at (view span) old s requests).1) old new
