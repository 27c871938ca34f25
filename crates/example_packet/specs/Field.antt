-- Numbers in a field: `len` bits of the first word of a memory, from the index `start` on. `at` takes an index in a word
-- of 32 bits to its position in the number, and a memory is the list of its words' numbers.
use Rattle.std.specs.Prelude.{ℕ, pos, ◌+◌, ◌-◌, ◌*◌, ◌/◌, ◌%◌, ◌^◌, ◌<◌, ◌≤◌, ◌≡◌, ◌⊎◌, List, if◌then◌else◌, nat_le}
use Rattle.bitvec.specs.Digit.{digit}
use Rattle.bitvec.specs.Memory.{bit_of}
use Rattle.bitvec.specs.Span.{Span, list_of, word_of}

-- the field as a span
abbrev pub field_span : ℕ → ℕ → Span
field_span start len = record { word = pos 0; head = start; len = len }

-- the position of its lowest digit: the lower of the positions of its first and its last index
abbrev pub lowest_of : (ℕ → ℕ) → ℕ → ℕ → ℕ
lowest_of at start len = if nat_le (at start) (at (start + len - 1)) then at start else at (start + len - 1)

-- a number shifted up to there, as a word
abbrev pub shifted_number : (ℕ → ℕ) → ℕ → ℕ → ℕ → ℕ
shifted_number at start len number = number * 2 ^ lowest_of at start len % 2 ^ 32

-- a memory has a number in the field: its bit at each place there is the digit at the place's position, in the number
-- shifted up to the field
abbrev pub HasNumber : (ℕ → ℕ) → ℕ → ℕ → ℕ → List ℕ → Type 0
HasNumber at start len number words = (place : ℕ) → start ≤ place → place < start + len → bit_of 32 at words place ≡ digit (shifted_number at start len number) (at place)

-- the number that a memory has in the field: the word of the field's bits, each at its position, shifted down
abbrev pub number_in : (ℕ → ℕ) → ℕ → ℕ → List ℕ → ℕ
number_in at start len words = word_of 32 at start (list_of 32 at (field_span start len) words) 0 / 2 ^ lowest_of at start len

-- the positions rise with the indices from 0 on, as those of `Lsb0`, or fall from 31 on, as those of `Msb0`
abbrev pub IsSteady : (ℕ → ℕ) → Type 0
IsSteady at = ((i : ℕ) → i < 32 → at i ≡ i) ⊎ ((i : ℕ) → i < 32 → at i + i ≡ 31)
