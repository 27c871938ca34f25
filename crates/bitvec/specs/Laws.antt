-- What registers, orders and places have no part in: the replies and the lists of requests under two orders. `bits` is the
-- width of a word, `at` takes an index in a word to its position in the number, `number` gives the number of a word, and a
-- memory is the list of its words' numbers.
use Rattle.std.specs.Prelude.{ℕ, ◌≡◌, ◌<◌, ◌==◌, if◌then◌else◌, List, [], ◌∷◌, slice_get, Some, All}
use Rattle.std.specs.List.{AllZip}
use Rattle.bitvec_mem.specs.Digit.{digit}
use Rattle.bitvec_span.specs.Span.{Span, list_of}
use Rattle.bitvec.specs.declared.run.command.Command.{Command}
use Rattle.bitvec.specs.declared.run.command.Command.TheVariants.{Load, Store, Set, Clear, Invert, Read, Replace, Swap, Copy, Fill}
use Rattle.bitvec.specs.declared.run.command.Request.{Request}
use Rattle.bitvec.specs.declared.run.command.Reply.{Reply}
use Rattle.bitvec.specs.declared.run.command.Reply.TheVariants.{Word, Bit, Done, PastEnd, NoSpan}
use Rattle.bitvec.specs.Commands.{own_commands}
use Rattle.bitvec.specs.Run.{alone_from}

-- the replies to the requests that name span s, in their order
abbrev pub own_replies : {W : Type 0} → ℕ → List (Request W) → List (Reply ℕ) → List (Reply ℕ)
own_replies s (request ∷ requests) (reply ∷ replies) = if request.span == s then reply ∷ own_replies s requests replies else own_replies s requests replies
own_replies s requests replies = []

-- two lists of requests give each of `spans` spans the same commands in the same order
abbrev pub HaveSameOwnCommands : {W : Type 0} → ℕ → List (Request W) → List (Request W) → Type 0
HaveSameOwnCommands spans requests other_requests = (s : ℕ) → s < spans → own_commands s requests ≡ own_commands s other_requests

-- each of `spans` spans has the same replies in the same order, in two lists of replies to two lists of requests
abbrev pub HaveSameOwnReplies : {W : Type 0} → ℕ → List (Request W) → List (Reply ℕ) → List (Request W) → List (Reply ℕ) → Type 0
HaveSameOwnReplies spans requests replies other_requests other_replies = (s : ℕ) → s < spans → own_replies s requests replies ≡ own_replies s other_requests other_replies

-- Two commands are the same but for how words are written: the same case, the same numbers and bits, and two words of
-- `Store` whose numbers `same_word` relates.
abbrev pub AreSameCommands : {V W : Type 0} → (V → ℕ) → (W → ℕ) → (ℕ → ℕ → Type 0) → Command V → Command W → Type 0
AreSameCommands number other_number same_word (Load k) (Load l) = k ≡ l
AreSameCommands number other_number same_word (Store k v) (Store l w) = (k ≡ l) × same_word (number v) (other_number w)
AreSameCommands number other_number same_word (Set k) (Set l) = k ≡ l
AreSameCommands number other_number same_word (Clear k) (Clear l) = k ≡ l
AreSameCommands number other_number same_word (Invert k) (Invert l) = k ≡ l
AreSameCommands number other_number same_word (Read i) (Read j) = i ≡ j
AreSameCommands number other_number same_word (Replace i a) (Replace j b) = (i ≡ j) × (a ≡ b)
AreSameCommands number other_number same_word (Swap i k) (Swap j l) = (i ≡ j) × (k ≡ l)
AreSameCommands number other_number same_word (Copy from to count) (Copy other_from other_to other_count) = (from ≡ other_from) × (to ≡ other_to) × (count ≡ other_count)
AreSameCommands number other_number same_word (Fill from to value) (Fill other_from other_to other_value) = (from ≡ other_from) × (to ≡ other_to) × (value ≡ other_value)
AreSameCommands number other_number same_word _ _ = ⊥

-- two requests: the same span number, and the same command
abbrev pub AreSameRequests : {V W : Type 0} → (V → ℕ) → (W → ℕ) → (ℕ → ℕ → Type 0) → Request V → Request W → Type 0
AreSameRequests number other_number same_word here there = (here.span ≡ there.span) × AreSameCommands number other_number same_word here.command there.command

-- two replies: the same case, the same bit, and two words that `same_word` relates
abbrev pub AreSameReplies : (ℕ → ℕ → Type 0) → Reply ℕ → Reply ℕ → Type 0
AreSameReplies same_word (Word v) (Word w) = same_word v w
AreSameReplies same_word (Bit a) (Bit b) = a ≡ b
AreSameReplies same_word Done Done = Unit {0}
AreSameReplies same_word PastEnd PastEnd = Unit {0}
AreSameReplies same_word NoSpan NoSpan = Unit {0}
AreSameReplies same_word _ _ = ⊥

-- words that are written as the same number
abbrev pub IsSameNumber : ℕ → ℕ → Type 0
IsSameNumber v w = v ≡ w

-- w is v turned from one order to another: its digit at each index's position in the other is v's in the one
abbrev pub IsTurned : ℕ → (ℕ → ℕ) → (ℕ → ℕ) → ℕ → ℕ → Type 0
IsTurned bits at other_at v w = (i : ℕ) → i < bits → digit w (other_at i) ≡ digit v (at i)

-- the command names bits and no word: it is `Read`, `Replace`, `Swap`, `Copy` or `Fill`
abbrev pub IsBitCommand : {W : Type 0} → Command W → Type 0
IsBitCommand (Read i) = Unit {0}
IsBitCommand (Replace i b) = Unit {0}
IsBitCommand (Swap i j) = Unit {0}
IsBitCommand (Copy from to count) = Unit {0}
IsBitCommand (Fill from to value) = Unit {0}
IsBitCommand (Load k) = ⊥
IsBitCommand (Store k v) = ⊥
IsBitCommand (Set k) = ⊥
IsBitCommand (Clear k) = ⊥
IsBitCommand (Invert k) = ⊥

-- In each of two memories, of any widths and orders, lie n spans, and span s of the one has the same list as span s of
-- the other. Then the same requests, all of bit commands, get each span the same replies, and leave it equal lists.
abbrev pub BitCommandsAgree : {V W : Type 0} → (V → ℕ) → ℕ → (ℕ → ℕ) → (W → ℕ) → ℕ → (ℕ → ℕ) → Type 0
BitCommandsAgree {V} {W} number bits at other_number other_bits other_at =
    (spans other_spans : List Span) (memory other_memory : List ℕ) (requests : List (Request V)) (other_requests : List (Request W))
    → AllZip (λ span other. list_of bits at span memory ≡ list_of other_bits other_at other other_memory) spans other_spans
    → All (λ request. IsBitCommand request.command) requests → AllZip (AreSameRequests number other_number IsSameNumber) requests other_requests
    → (s : ℕ) (span other : Span) → slice_get spans s ≡ Some span → slice_get other_spans s ≡ Some other
    → let here = alone_from number bits at span memory s requests in let there = alone_from other_number other_bits other_at other other_memory s other_requests in
    AllZip (AreSameReplies IsSameNumber) here.0 there.0 × (here.1 ≡ there.1)

-- In each of two memories, under orders of their own, lie n spans, and span s of the one has the same head and the same
-- list as span s of the other. Then the same requests, the numbers of `Store` turned, get each span the same replies, the
-- numbers of `Word` turned, and leave it equal lists.
abbrev pub TurnedOrdersAgree : {W : Type 0} → (W → ℕ) → ℕ → (ℕ → ℕ) → (ℕ → ℕ) → Type 0
TurnedOrdersAgree {W} number bits at other_at =
    (spans other_spans : List Span) (memory other_memory : List ℕ) (requests other_requests : List (Request W))
    → AllZip (λ span other. (span.head ≡ other.head) × (list_of bits at span memory ≡ list_of bits other_at other other_memory)) spans other_spans
    → AllZip (AreSameRequests number number (IsTurned bits at other_at)) requests other_requests
    → (s : ℕ) (span other : Span) → slice_get spans s ≡ Some span → slice_get other_spans s ≡ Some other
    → let here = alone_from number bits at span memory s requests in let there = alone_from number bits other_at other other_memory s other_requests in
    AllZip (AreSameReplies (IsTurned bits at other_at)) here.0 there.0 × (here.1 ≡ there.1)
