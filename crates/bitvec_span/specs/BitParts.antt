-- Bits that lie one behind another in words of their own. `bits` is the width of a word.
use Rattle.std.specs.Prelude.{ℕ, pos, ◌-◌, ◌*◌, Bool, true, false, List, [], ◌∷◌, ◌++◌, Option, Some, None, length}
use Rattle.bitvec_span.specs.Span.{list_of}
use Rattle.bitvec_span.specs.Parts.{Part, Parts, enclave, region}

-- some words, the index of the first bit in the first of them, and how many bits there are
pub record WordBits : Type 0 where
  pub words : List ℕ
  pub head : ℕ
  pub len : ℕ

-- these bits, in order
abbrev pub bits_list : ℕ → (ℕ → ℕ) → WordBits → List Bool
bits_list bits at b = list_of bits at (record { word = pos 0; head = b.head; len = b.len }) b.words

-- no bits
abbrev pub no_bits : WordBits
no_bits = record { words = []; head = 0; len = 0 }

-- the bits of a part of a word
abbrev pub part_bits : Part → WordBits
part_bits part = record { words = part.word ∷ []; head = part.head; len = part.tail - part.head }

-- the bits of a part, if there is one
abbrev pub optional_bits : Option Part → WordBits
optional_bits (Some part) = part_bits part
optional_bits None = no_bits

-- all bits of whole words
abbrev pub body_bits : ℕ → List ℕ → WordBits
body_bits bits words = record { words = words; head = 0; len = length words * bits }

-- one stretch of bits, or those of a head, of whole words and of a tail
pub data BitParts : Type 0 where
  bit_enclave : WordBits → BitParts
  bit_region : WordBits → WordBits → WordBits → BitParts

-- whether the bits are one stretch alone
abbrev pub is_bit_enclave : BitParts → Bool
is_bit_enclave (bit_enclave b) = true
is_bit_enclave (bit_region head body tail) = false

-- the parts of words as bits
abbrev pub bit_parts_of : ℕ → Parts → BitParts
bit_parts_of bits (enclave part) = bit_enclave (part_bits part)
bit_parts_of bits (region head body tail) = bit_region (optional_bits head) (body_bits bits body) (optional_bits tail)

-- the bits of all the parts, one behind the other
abbrev pub joined_bits : ℕ → (ℕ → ℕ) → BitParts → List Bool
joined_bits bits at (bit_enclave b) = bits_list bits at b
joined_bits bits at (bit_region head body tail) = bits_list bits at head ++ (bits_list bits at body ++ bits_list bits at tail)
