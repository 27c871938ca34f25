-- A header of five numbers, each in a way of its own.
use Rattle.std.specs.Prelude.{◌≡◌, ℕ, ◌^◌, ◌<◌, ◌≤◌, ℤ, pos, Bool, List, [], ◌∷◌, length}
use Rattle.std.specs.List.{All}
use Rattle.bitvec_slice.specs.Signed.{FitsSignedDigits}
use Rattle.bitvec_stream.specs.Items.{Way, highest_first, lowest_first, signed_highest_first, exp_golomb, signed_exp_golomb, CanBeWritten, AreRead, items_bits}
use Rattle.tests_stream.specs.declared.header.Header.{Header}

-- each number with its way, in order
abbrev pub header_items : Header → List (Way × ℤ)
header_items header =
    (highest_first 4, pos header.version) ∷ (lowest_first 12, pos header.kind) ∷ (signed_highest_first 6, header.offset)
    ∷ (exp_golomb, pos header.length) ∷ (signed_exp_golomb, header.drift) ∷ []

-- the ways
abbrev pub header_ways : List Way
header_ways = highest_first 4 ∷ lowest_first 12 ∷ signed_highest_first 6 ∷ exp_golomb ∷ signed_exp_golomb ∷ []

-- the numbers
abbrev pub header_values : Header → List ℤ
header_values header = pos header.version ∷ pos header.kind ∷ header.offset ∷ pos header.length ∷ header.drift ∷ []

-- the numbers that are written as codes are those of their types
abbrev pub HasItsTypes : Header → Type 0
HasItsTypes header = (header.length < 2 ^ 32) × FitsSignedDigits 16 header.drift

-- bits are a header, and others behind it
abbrev pub BeginWithHeader : List Bool → Header → List Bool → Type 0
BeginWithHeader bits header left = AreRead header_ways bits (header_values header) left

-- bits begin with no header whose numbers are those of their types
abbrev pub BeginWithNoHeader : List Bool → Type 0
BeginWithNoHeader bits = (header : Header) (left : List Bool) → HasItsTypes header → ¬ BeginWithHeader bits header left

-- numbers can be written, and there is room for them
abbrev pub CanBePut : ℕ → List (Way × ℤ) → Type 0
CanBePut room items = All (λ it. CanBeWritten it.0 it.1) items × (length (items_bits items) ≤ room)
