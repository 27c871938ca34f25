-- What a `BitWriter` shows.
use Rattle.std.specs.Prelude.{◌≡◌, ℕ, ◌+◌, ◌-◌, Bool, List, ◌++◌, length, map, take, drop, Result, MatchResult}
use Rattle.std.specs.Borrow.{MutBor}
use Rattle.bitvec.specs.BitSpan.{span_of}
use Rattle.bitvec.specs.Span.{Span, BecomesList, list_of}
use Rattle.bitvec_stream.specs.declared.error.WriteError.{WriteError}
use Rattle.bitvec_stream.specs.declared.error.WriteError.TheVariants.{NoRoom}
use Rattle.bitvec_stream.specs.declared.writer.BitWriter.{BitWriter}

-- the memory that it borrows
abbrev pub target_memory : {R O : Type 0} {a b c d e f g h i : _} → BitWriter R O a b c d e f g h i → MutBor (List R)
target_memory writer = writer.memory

-- where the bits that it may write lie in that memory, with those that it wrote
abbrev pub target_span : {R O : Type 0} {a b c d e f g h i : _} → BitWriter R O a b c d e f g h i → Span
target_span writer = span_of writer.span

-- the numbers of the memory's words
abbrev pub target_words : {R O : Type 0} {a b c d e f g h i : _} → BitWriter R O a b c d e f g h i → List ℕ
target_words {a = own} writer = map own.number (target_memory writer).now

-- these bits, in order
abbrev pub target_bits : {R O : Type 0} {a b c d e f g h i : _} → BitWriter R O a b c d e f g h i → List Bool
target_bits {a = own} {i = order} writer = list_of own.BITS order.at_of (target_span writer) (target_words writer)

-- how many of them are behind it
abbrev pub bits_written : {R O : Type 0} {a b c d e f g h i : _} → BitWriter R O a b c d e f g h i → ℕ
bits_written writer = writer.end - writer.kept

-- the bits that are behind it, in order
abbrev pub written : {R O : Type 0} {a b c d e f g h i : _} → BitWriter R O a b c d e f g h i → List Bool
written writer = take (bits_written writer) (target_bits writer)

-- the bits before it, which it may still write, as they are
abbrev pub room : {R O : Type 0} {a b c d e f g h i : _} → BitWriter R O a b c d e f g h i → List Bool
room writer = drop (bits_written writer) (target_bits writer)

-- The bits that a writer may write, with those that it wrote, become those of a list, and all else stays: their place, the
-- loan, every other bit of the memory, and the list of every span beside them.
abbrev pub BecomesTarget : {R O : Type 0} {a b c d e f g h i : _} → (old new : BitWriter R O a b c d e f g h i) → List Bool → Type 0
BecomesTarget {a = own} {i = order} old new bits =
    (target_bits new ≡ bits) × (target_span new ≡ target_span old) × ((target_memory new).ghost_name ≡ (target_memory old).ghost_name)
    × BecomesList own.BITS order.at_of (target_span old) (target_words old) (target_words new) bits

-- A writer has written a list: it stands behind what was written, in place of the room's first bits, and all else
-- stays: the bits behind it, and what lies outside the writer's bits.
abbrev pub Writes : {R O : Type 0} {a b c d e f g h i : _} → (old new : BitWriter R O a b c d e f g h i) → List Bool → Type 0
Writes old new bits =
    (written new ≡ written old ++ bits) × (room new ≡ drop (length bits) (room old)) × (bits_written new ≡ bits_written old + length bits)
    × BecomesTarget old new (written old ++ bits ++ drop (length bits) (room old))

-- A writer has passed over `count` bits of its room, which are as they were.
abbrev pub Skips : {R O : Type 0} {a b c d e f g h i : _} → (old new : BitWriter R O a b c d e f g h i) → ℕ → Type 0
Skips old new count =
    (written new ≡ written old ++ take count (room old)) × (room new ≡ drop count (room old)) × (bits_written new ≡ bits_written old + count)
    × (target_memory new ≡ target_memory old) × (target_span new ≡ target_span old)

-- what a call that writes a list answers: it has written it, or there was no room, and the writer is as it was
abbrev pub WritesOrNoRoom : {R O : Type 0} {a b c d e f g h i : _} → (old new : BitWriter R O a b c d e f g h i) → List Bool → Result (Unit {0}) WriteError → Type 0
WritesOrNoRoom old new bits result = MatchResult result (λ _. Writes old new bits) (λ error. (error ≡ NoRoom) × (new ≡ old))

-- the same of a call that passes over `count` bits
abbrev pub SkipsOrNoRoom : {R O : Type 0} {a b c d e f g h i : _} → (old new : BitWriter R O a b c d e f g h i) → ℕ → Result (Unit {0}) WriteError → Type 0
SkipsOrNoRoom old new count result = MatchResult result (λ _. Skips old new count) (λ error. (error ≡ NoRoom) × (new ≡ old))
