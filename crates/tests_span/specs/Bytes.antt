-- The bits of a memory of words as the bits of their bytes. `n` is how many bytes a word has.
use Rattle.std.specs.Prelude.{ℕ, ◌-◌, ◌*◌, ◌≡◌, List}
use Rattle.std.specs.Int.{bytes_low_first, bytes_high_first}
use Rattle.std.specs.List.{flat_map}
use Rattle.bitvec_ptr.specs.Memory.{memory_bits}

-- by rising positions, as those of `Lsb0`: the lowest byte of each word first
abbrev pub LowBytes : ℕ → Type 0
LowBytes n = (words : List ℕ) → memory_bits (n * 8) (λ i. i) words ≡ memory_bits 8 (λ i. i) (flat_map (bytes_low_first 0 n) words)

-- by falling positions, as those of `Msb0`: the highest byte of each word first
abbrev pub HighBytes : ℕ → Type 0
HighBytes n = (words : List ℕ) → memory_bits (n * 8) (λ i. n * 8 - 1 - i) words ≡ memory_bits 8 (λ i. 7 - i) (flat_map (bytes_high_first n) words)
