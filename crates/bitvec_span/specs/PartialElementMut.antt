-- What a `PartialElementMut` shows.
use Rattle.std.specs.Prelude.{ℕ, Bool, List, map}
use Rattle.std.specs.Borrow.{MutBor}
use Rattle.bitvec_span.specs.declared.domain.partial_element_mut.PartialElementMut.{PartialElementMut}
use Rattle.bitvec_span.specs.Slot.{Slot, EditsPart}

-- the memory that it borrows
abbrev pub memory_of : {R O : Type 0} {a b c d e f g : _} → PartialElementMut R O a b c d e f g → MutBor (List R)
memory_of element = element.memory

-- where its bits lie in that memory
abbrev pub slot_in : {R O : Type 0} {a b c d e f g : _} → PartialElementMut R O a b c d e f g → Slot
slot_in element = record { word = element.word; head = element.head; tail = element.tail }

-- its bits were given other values, bit i of the word `after i`, which made `new` of `old`; the answer is the part's value before
abbrev pub PartIsEdited : {R O : Type 0} {a b c d e f g : _} → (R → ℕ) → ℕ → (ℕ → ℕ) → (ℕ → Bool) → PartialElementMut R O a b c d e f g → PartialElementMut R O a b c d e f g → ℕ → Type 0
PartIsEdited number bits at after old new answer = EditsPart bits at (slot_in old) after (map number (memory_of old).now) (map number (memory_of new).now) answer
