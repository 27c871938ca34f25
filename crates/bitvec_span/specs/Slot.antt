-- Edits of a part of a word. A memory is the list of its words' numbers.
use Rattle.std.specs.Prelude.{ℕ, pos, nat_abs, ◌≡◌, ◌+◌, ◌-◌, ◌&&◌, Bool, if◌then◌else◌, List, nat_le, nat_lt, slice_index, slice_set}
use Rattle.bitvec_mem.specs.Digit.{digit}
use Rattle.bitvec_order.specs.Order.{number_of}
use Rattle.bitvec_span.specs.Span.{Span, KeepsLists}
use Rattle.bitvec_span.specs.Parts.{Part, value_of, part_head, part_tail}

-- where a part of a word lies in a memory: the word, and the bits with indices from `head` to before `tail`
pub record Slot : Type 0 where
  pub word : ℕ
  pub head : ℕ
  pub tail : ℕ

-- its bits as a span
abbrev pub slot_span : Slot → Span
slot_span slot = record { word = pos slot.word; head = slot.head; len = slot.tail - slot.head }

-- the part that lies there
abbrev pub slot_part : Slot → List ℕ → Part
slot_part slot words = record { word = slice_index words slot.word; head = slot.head; tail = slot.tail }

-- where the part of the k-th word that a span meets lies in a memory that has this word at an index
abbrev pub slot_at : ℕ → Span → ℕ → ℕ → Slot
slot_at bits span k word = record { word = word; head = part_head span.head k; tail = part_tail bits span.head span.len k }

-- where the part of the k-th word lies that a span meets
abbrev pub slot_of : ℕ → Span → ℕ → Slot
slot_of bits span k = slot_at bits span k (nat_abs span.word + k)

-- a part's word with other bits in the part: at the position of each of its indices i stands `after i`, and at every
-- other position what stood there
abbrev pub edited_word : ℕ → (ℕ → ℕ) → Part → (ℕ → Bool) → ℕ
edited_word bits at part after = number_of at (λ i. if nat_le part.head i && nat_lt i part.tail then after i else digit part.word (at i)) bits

-- The part that lies in a slot of the memory `old` was given other bits, which made the memory `new`: no other word and
-- no other digit of the word changed, so each span that is disjoint from the part keeps its list. The answer is the part's
-- value before.
pub record EditsPart (bits : ℕ) (at : ℕ → ℕ) (slot : Slot) (after : ℕ → Bool) (old new : List ℕ) (answer : ℕ) : Type 0 where
  pub words : new ≡ slice_set old slot.word (edited_word bits at (slot_part slot old) after)
  pub apart : KeepsLists bits at (slot_span slot) old new
  pub answered : answer ≡ value_of bits at (slot_part slot old)
