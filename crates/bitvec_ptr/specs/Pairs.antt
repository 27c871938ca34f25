-- Two ranges of bits, bit by bit, and the numbers below a bound that pass a test.
use Rattle.std.specs.Prelude.{◌≡◌, ℕ, ◌+◌, ◌<◌, Bool, true, false, List, map, Option, MatchOption}
use Rattle.bitvec_ptr.specs.declared.ptr.cursor.Cursor.{Cursor}
use Rattle.bitvec_ptr.specs.declared.ptr.single.BitPtr.{BitPtr}
use Rattle.bitvec_ptr.specs.BitPtr.{bit_by}
use Rattle.bitvec_ptr.specs.Cursor.{cursor_place}
use Rattle.bitvec_ptr.specs.Memory.{bit_of}

-- f of bit j of those from place t of a memory on, and of bit j of those from place s of another on
abbrev pub pair_of : (Bool → Bool → Bool) → ℕ → (ℕ → ℕ) → List ℕ → ℕ → ℕ → (ℕ → ℕ) → List ℕ → ℕ → ℕ → Bool
pair_of f bits at words t bits2 at2 others s j = f (bit_of bits at words (t + j)) (bit_of bits2 at2 others (s + j))

-- f of bit j of those from place t of a memory on, and of bit j of those from a cursor on
abbrev pub pair_from : {R2 : Type 0} {a b c d e f g : _} → (Bool → Bool → Bool) → ℕ → (ℕ → ℕ) → List ℕ → ℕ → Cursor R2 a b c d e f g
    → (ℕ → ℕ) → List R2 → ℕ → Bool
pair_from {a = own} of bits at words t from at2 others = pair_of of bits at words t own.BITS at2 (map own.number others) (cursor_place from)

-- what `of` makes of two bits, each in a memory of its own: bit j of those from a pointer on, and bit j of those from
-- another pointer on
abbrev pub pair_by : {R O R2 O2 : Type 0} {a b c d e f g a2 b2 c2 d2 e2 f2 g2 : _} → (Bool → Bool → Bool)
    → BitPtr R O a b c d e f g → (ℕ → ℕ) → List R → BitPtr R2 O2 a2 b2 c2 d2 e2 f2 g2 → (ℕ → ℕ) → List R2 → ℕ → Bool
pair_by of ptr at words other at2 others j = of (bit_by ptr at words j) (bit_by other at2 others j)

-- no number below n passes a test
abbrev pub NoneBelow : (ℕ → Bool) → ℕ → Type 0
NoneBelow test n = (j : ℕ) → j < n → test j ≡ false

-- i is below n and passes a test, and no number below i does
abbrev pub IsFirstBelow : (ℕ → Bool) → ℕ → ℕ → Type 0
IsFirstBelow test n i = (i < n) × (test i ≡ true) × ((j : ℕ) → j < i → test j ≡ false)

-- what a search of the numbers below n finds: none where none passes a test, and else the first that does
abbrev pub FindsFirst : (ℕ → Bool) → ℕ → Option ℕ → Type 0
FindsFirst test n found = MatchOption found (NoneBelow test n) (IsFirstBelow test n)
