-- Bits that lie one behind another in some words of a memory.
use Rattle.std.specs.Prelude.{ℕ, ◌+◌, ◌-◌, ◌*◌, List, slice_range}
use Rattle.bitvec_span.specs.Slot.{Slot}
use Rattle.bitvec_span.specs.BitParts.{WordBits}

-- `count` words of a memory from word `first` on, the index of the first bit in the first of them, and how many bits
-- there are
pub record Stretch : Type 0 where
  pub first : ℕ
  pub count : ℕ
  pub head : ℕ
  pub len : ℕ

-- the bits that lie there
abbrev pub stretch_bits : Stretch → List ℕ → WordBits
stretch_bits stretch words = record { words = slice_range words stretch.first (stretch.first + stretch.count); head = stretch.head; len = stretch.len }

-- no bits of no words
abbrev pub no_stretch : Stretch
no_stretch = record { first = 0; count = 0; head = 0; len = 0 }

-- where the bits of a part of a word lie
abbrev pub slot_stretch : Slot → Stretch
slot_stretch slot = record { first = slot.word; count = 1; head = slot.head; len = slot.tail - slot.head }

-- all bits of some words, from a memory's first on
abbrev pub whole_stretch : ℕ → ℕ → Stretch
whole_stretch bits count = record { first = 0; count = count; head = 0; len = count * bits }
