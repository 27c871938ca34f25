-- The keys of a Bloom filter.
use Rattle.std.specs.Prelude.{◌≡◌, ℕ, ◌+◌, ◌*◌, ◌/◌, ◌%◌, ◌^◌, ◌<◌, Bool, true, List, length}
use Rattle.bitvec.specs.Span.{element}

-- The bit of a key's probe number i, among `bits` bits: the key's lower half, and i times its upper half.
unfoldable pub probe_of : ℕ → ℕ → ℕ → ℕ
probe_of bits key i = (key % 2 ^ 32 + i * (key / 2 ^ 32)) % bits

-- each of the four probes of a key is set
abbrev pub HasKey : List Bool → ℕ → Type 0
HasKey xs key = (i : ℕ) → i < 4 → element xs (probe_of (length xs) key i) ≡ true

-- a bit is that of one of a key's four probes
abbrev pub IsProbe : ℕ → ℕ → ℕ → Type 0
IsProbe bits key j = (i : ℕ) × (i < 4) × (j ≡ probe_of bits key i)
