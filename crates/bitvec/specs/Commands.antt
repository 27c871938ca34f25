-- Commands on one list of bits that starts at the bit `head` of a word. `bits` is the width of a word, `at` takes an index
-- in a word to its position in the number, and `number` gives the number of a word.
use Rattle.std.specs.Prelude.{ℕ, ◌+◌, ◌%◌, Bool, true, false, not, ◌&&◌, List, [], ◌∷◌, length, map, swap, slice_set, if◌then◌else◌, ◌==◌, nat_lt, nat_le, Option, Some, None}
use Rattle.bitvec_mem.specs.Digit.{digit}
use Rattle.bitvec_ptr.specs.Memory.{list_with_copy}
use Rattle.bitvec_ptr.specs.Place.{words_met}
use Rattle.bitvec_span.specs.Span.{element, word_of, with_word, with_filled}
use Rattle.bitvec.specs.declared.run.command.Command.{Command}
use Rattle.bitvec.specs.declared.run.command.Command.TheVariants.{Load, Store, Set, Clear, Invert, Read, Replace, Swap, Copy, Fill}
use Rattle.bitvec.specs.declared.run.command.Request.{Request}
use Rattle.bitvec.specs.declared.run.command.Reply.{Reply}
use Rattle.bitvec.specs.declared.run.command.Reply.TheVariants.{Word, Bit, Done, PastEnd, NoSpan}

-- a reply and a list where a command names nothing past the end, else none
abbrev pub when : Bool → Reply ℕ → List Bool → Option (Reply ℕ × List Bool)
when within reply xs = if within then Some (reply, xs) else None

-- the same of a command to word k, which replies with the word as it was
abbrev pub on_word : ℕ → (ℕ → ℕ) → ℕ → List Bool → ℕ → List Bool → Option (Reply ℕ × List Bool)
on_word bits at head xs k ys = when (nat_lt k (words_met bits head (length xs))) (Word (word_of bits at head xs k)) ys

-- The table of the commands: the reply of each one on one list, and the list that it leaves. It has none where the
-- command names a word or a bit past the end, or a fill whose start is behind its end.
abbrev pub outcome : {W : Type 0} → (W → ℕ) → ℕ → (ℕ → ℕ) → ℕ → Command W → List Bool → Option (Reply ℕ × List Bool)
outcome number bits at head (Load k) xs = on_word bits at head xs k xs
outcome number bits at head (Store k v) xs = on_word bits at head xs k (with_word bits head xs k (λ j. digit (number v) (at ((head + j) % bits))))
outcome number bits at head (Set k) xs = on_word bits at head xs k (with_word bits head xs k (λ j. true))
outcome number bits at head (Clear k) xs = on_word bits at head xs k (with_word bits head xs k (λ j. false))
outcome number bits at head (Invert k) xs = on_word bits at head xs k (with_word bits head xs k (λ j. not (element xs j)))
outcome number bits at head (Read i) xs = when (nat_lt i (length xs)) (Bit (element xs i)) xs
outcome number bits at head (Replace i b) xs = when (nat_lt i (length xs)) (Bit (element xs i)) (slice_set xs i b)
outcome number bits at head (Swap i j) xs = when (nat_lt i (length xs) && nat_lt j (length xs)) Done (swap xs i j)
outcome number bits at head (Copy from to count) xs = when (nat_le (from + count) (length xs) && nat_le (to + count) (length xs)) Done (list_with_copy xs from xs to count)
outcome number bits at head (Fill from to value) xs = when (nat_le from to && nat_le to (length xs)) Done (with_filled xs from to value)

-- the reply to a command of this outcome: `PastEnd` where it is none
abbrev pub reply_in : Option (Reply ℕ × List Bool) → Reply ℕ
reply_in None = PastEnd
reply_in (Some both) = both.0

-- the list after it, which stays where there is none
abbrev pub list_in : List Bool → Option (Reply ℕ × List Bool) → List Bool
list_in xs None = xs
list_in xs (Some both) = both.1

-- the replies to commands in turn on one list alone, and the list that they leave
abbrev pub alone : {W : Type 0} → (W → ℕ) → ℕ → (ℕ → ℕ) → ℕ → List (Command W) → List Bool → List (Reply ℕ) × List Bool
alone number bits at head [] xs = ([], xs)
alone number bits at head (command ∷ commands) xs =
    let first = outcome number bits at head command xs in
    let rest = alone number bits at head commands (list_in xs first) in
    (reply_in first ∷ rest.0, rest.1)

-- the commands of the requests that name span s, in their order
abbrev pub own_commands : {W : Type 0} → ℕ → List (Request W) → List (Command W)
own_commands s [] = []
own_commands s (request ∷ requests) = if request.span == s then request.command ∷ own_commands s requests else own_commands s requests

-- a reply with its word as a number
abbrev pub reply_number : {W : Type 0} → (W → ℕ) → Reply W → Reply ℕ
reply_number number (Word w) = Word (number w)
reply_number number (Bit b) = Bit b
reply_number number Done = Done
reply_number number PastEnd = PastEnd
reply_number number NoSpan = NoSpan

-- replies, each with its word as a number
abbrev pub reply_numbers : {W : Type 0} → (W → ℕ) → List (Reply W) → List (Reply ℕ)
reply_numbers number replies = map (reply_number number) replies
