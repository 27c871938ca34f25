-- What a `BitWords` and a `BitDomain` show, over the numbers of its words.
use Rattle.std.specs.Prelude.{ℕ, map}
use Rattle.bitvec_span.specs.declared.domain.bit_words.BitWords.{BitWords}
use Rattle.bitvec_span.specs.declared.domain.bit_domain.BitDomain.{BitDomain}
pub use Rattle.bitvec_span.specs.declared.domain.bit_domain.BitDomain.TheVariants.{Enclave, Region}
use Rattle.bitvec_span.specs.BitParts.{WordBits, BitParts, bit_enclave, bit_region}

-- its words, its head and its length
abbrev pub word_bits : {R O : Type 0} {a b c d e f g : _} → (R → ℕ) → BitWords R O a b c d e f g → WordBits
word_bits number bits = record { words = map number bits.words.now; head = bits.head; len = bits.len }

-- its stretches of bits
abbrev pub bit_parts : {R O : Type 0} {a b c d e f g : _} → (R → ℕ) → BitDomain R O a b c d e f g → BitParts
bit_parts number (Enclave bits) = bit_enclave (word_bits number bits)
bit_parts number (Region head body tail) = bit_region (word_bits number head) (word_bits number body) (word_bits number tail)
