-- What a `Parts` shows.
use Rattle.std.specs.Prelude.{◌≡◌, ℕ, ℤ, pos, ◌≤ℤ◌, Bool, List, All, map, slice_index_or}
use Rattle.std.specs.Borrow.{MutBor}
use Rattle.bitvec.specs.Memory.{bit_of}
use Rattle.bitvec.specs.Span.{Span, AreDisjoint, list_of}
use Rattle.bitvec.specs.Run.{IsOutside}
use Rattle.bits_lib.specs.Interval.{interval_span, no_span}
use Rattle.bits_lib.specs.declared.view.Parts.{Parts}

-- the memory that it borrows
abbrev pub view_memory : {R O : Type 0} {N a b c d e f g h i : _} → Parts R O N a b c d e f g h i → MutBor (List R)
view_memory parts = parts.memory

-- the spans of its parts
abbrev pub part_spans : {R O : Type 0} {N a b c d e f g h i : _} → Parts R O N a b c d e f g h i → List Span
part_spans parts = map interval_span parts.intervals

-- where part s lies; no bits where there is no such part
abbrev pub part_span : {R O : Type 0} {N a b c d e f g h i : _} → Parts R O N a b c d e f g h i → ℕ → Span
part_span parts s = slice_index_or (part_spans parts) s no_span

-- the bits of part s, in order
abbrev pub part_list : {R O : Type 0} {N a b c d e f g h i : _} → Parts R O N a b c d e f g h i → ℕ → List Bool
part_list {a = own} {i = order} parts s = list_of own.BITS order.at_of (part_span parts s) (map own.number (view_memory parts).now)

-- every bit of the memory outside the parts of `old` is in `new` as before
abbrev pub KeepsOutsideParts : {R O : Type 0} {N a b c d e f g h i : _} → Parts R O N a b c d e f g h i → Parts R O N a b c d e f g h i → Type 0
KeepsOutsideParts {a = own} {i = order} old new = (place : ℕ) → IsOutside own.BITS (λ span. span) (part_spans old) place → bit_of own.BITS order.at_of (map own.number (view_memory new).now) place ≡ bit_of own.BITS order.at_of (map own.number (view_memory old).now) place

-- the list of every span that is disjoint from each part of `old` is in `new` as before
abbrev pub KeepsApart : {R O : Type 0} {N a b c d e f g h i : _} → Parts R O N a b c d e f g h i → Parts R O N a b c d e f g h i → Type 0
KeepsApart {a = own} {i = order} old new =
    (word : ℤ) (head len : ℕ) → pos 0 ≤ℤ word
    → All (λ part. AreDisjoint own.BITS part (record { word = word; head = head; len = len })) (part_spans old)
    → list_of own.BITS order.at_of (record { word = word; head = head; len = len }) (map own.number (view_memory new).now)
    ≡ list_of own.BITS order.at_of (record { word = word; head = head; len = len }) (map own.number (view_memory old).now)
