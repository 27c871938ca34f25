-- Numbers that stand one behind the other in a list of bits.
use Rattle.std.specs.Prelude.{◌≡◌, ◌↔◌, ℕ, ◌^◌, ◌<◌, ◌≤◌, ℤ, pos, negsuc, unsigned_abs, Bool, List, [], ◌∷◌, ◌++◌, length, map, take, drop}
use Rattle.std.specs.List.{All, flat_map}
use Rattle.bitvec_slice.specs.Signed.{signed_of, complement_of, FitsSignedDigits}
use Rattle.bitvec_stream.specs.Golomb.{golomb, signed_place, StartsWith}
use Rattle.bitvec_stream.specs.Numbers.{number_le, number_be, digits_le, digits_be}

-- A way to write a number: in a number of bits, the highest digit first or the lowest, as an unsigned number or as a two's
-- complement; or as an Exp-Golomb code.
pub data Way : Type 0 where
  highest_first : ℕ → Way
  lowest_first : ℕ → Way
  signed_highest_first : ℕ → Way
  signed_lowest_first : ℕ → Way
  exp_golomb : Way
  signed_exp_golomb : Way

-- an unsigned number below a bound
abbrev pub IsBelow : ℕ → ℤ → Type 0
IsBelow bound (pos n) = n < bound
IsBelow bound (negsuc n) = ⊥

-- an unsigned number
abbrev pub IsUnsigned : ℤ → Type 0
IsUnsigned (pos n) = Unit {0}
IsUnsigned (negsuc n) = ⊥

-- a number can be written in a way
abbrev pub CanBeWritten : Way → ℤ → Type 0
CanBeWritten (highest_first count) z = IsBelow (2 ^ count) z
CanBeWritten (lowest_first count) z = IsBelow (2 ^ count) z
CanBeWritten (signed_highest_first count) z = FitsSignedDigits count z
CanBeWritten (signed_lowest_first count) z = FitsSignedDigits count z
CanBeWritten exp_golomb z = IsUnsigned z
CanBeWritten signed_exp_golomb z = Unit {0}

-- the bits that a number is written in
abbrev pub written_as : Way → ℤ → List Bool
written_as (highest_first count) z = digits_be count (complement_of count z)
written_as (lowest_first count) z = digits_le count (complement_of count z)
written_as (signed_highest_first count) z = digits_be count (complement_of count z)
written_as (signed_lowest_first count) z = digits_le count (complement_of count z)
written_as exp_golomb z = golomb (unsigned_abs z)
written_as signed_exp_golomb z = golomb (signed_place z)

-- the next `count` bits of a list are read, and others are left
abbrev pub Takes : ℕ → List Bool → List Bool → Type 0
Takes count xs left = (count ≤ length xs) × (left ≡ drop count xs)

-- a code is read from a list, and others are left
abbrev pub TakesCode : ℕ → List Bool → List Bool → Type 0
TakesCode n xs left = StartsWith xs (golomb n) × (left ≡ drop (length (golomb n)) xs)

-- a number is read from a list in a way, and other bits are left
abbrev pub IsReadAs : Way → List Bool → ℤ → List Bool → Type 0
IsReadAs (highest_first count) xs z left = (z ≡ pos (number_be (take count xs))) × Takes count xs left
IsReadAs (lowest_first count) xs z left = (z ≡ pos (number_le (take count xs))) × Takes count xs left
IsReadAs (signed_highest_first count) xs z left = (z ≡ signed_of count (number_be (take count xs))) × Takes count xs left
IsReadAs (signed_lowest_first count) xs z left = (z ≡ signed_of count (number_le (take count xs))) × Takes count xs left
IsReadAs exp_golomb xs z left = IsUnsigned z × TakesCode (unsigned_abs z) xs left
IsReadAs signed_exp_golomb xs z left = TakesCode (signed_place z) xs left

-- numbers are read one behind the other, each in its way, and other bits are left
abbrev pub AreRead : List Way → List Bool → List ℤ → List Bool → Type 0
AreRead [] xs zs left = (zs ≡ []) × (left ≡ xs)
AreRead (way ∷ ways) xs [] left = ⊥
AreRead (way ∷ ways) xs (z ∷ zs) left = (mid : List Bool) × IsReadAs way xs z mid × AreRead ways mid zs left

-- the bits that numbers are written in, one behind the other, each in its way
abbrev pub items_bits : List (Way × ℤ) → List Bool
items_bits items = flat_map (λ it. written_as it.0 it.1) items

-- What was written is read, and nothing else: from a list that begins with numbers, each written in its way, the same ways
-- read numbers and leave other bits exactly where these are the numbers that were written, and what stands behind them.
abbrev pub WrittenIsRead : Type 0
WrittenIsRead =
    (items : List (Way × ℤ)) (after : List Bool) (zs : List ℤ) (left : List Bool) → All (λ it. CanBeWritten it.0 it.1) items
    → (AreRead (map (λ it. it.0) items) (items_bits items ++ after) zs left ↔ ((zs ≡ map (λ it. it.1) items) × (left ≡ after)))
