-- Streams: numbers that stand one behind the other in the bits of a memory. A call reads or writes one from a place on, and
-- moves the place behind it; the bits that are left lie between the place and an end.
use Rattle.std.specs.Prelude.{◌≡◌, ◌≢◌, ℕ, ◌+◌, ◌-◌, ◌^◌, ◌<◌, ◌≤◌, ℤ, Bool, not, List, [], ◌∷◌, ◌++◌, length, take, replicate, if◌then◌else◌}
use Rattle.bitvec.specs.Truths.{AllAre}
use Rattle.bitvec_slice.specs.Bits.{BeginsWith}
use Rattle.bitvec_slice.specs.Signed.{signed_of, complement_of, FitsSignedDigits}
use Rattle.bitvec_stream.specs.Golomb.{golomb, signed_place, StartsWith}
use Rattle.bitvec_stream.specs.Numbers.{number_le, number_be, digits_le, digits_be}
use Rattle.bitvec_stream.specs.declared.error.ReadError.{ReadError}
use Rattle.bitvec_stream.specs.declared.error.ReadError.TheVariants.{TooFew, Unended, TooLarge}
use Rattle.bitvec_stream.specs.declared.error.WriteError.{WriteError}
use Rattle.bitvec_stream.specs.declared.error.WriteError.TheVariants.{NoRoom, TooManyDigits}
use Rattle.bitvec_call.specs.Call.{Operand, order_of}
use Rattle.bitvec_call.specs.Range.{range_bits, RangeBecomes}
use Rattle.bitvec_call.specs.RunStatus.{IsFirstFailed}
use Rattle.bitvec_call.specs.Status.{ok, too_wide, too_few, too_large, left_status}

-- the bits of a memory from place `from` to before place `end`
abbrev pub bits_between : ℕ → (ℕ → ℕ) → ℕ → ℕ → List ℕ → List Bool
bits_between bits at from end words = range_bits bits at from (end - from) words

-- the bits that are left of a part, from its start to before an end
abbrev pub left_of : Operand → ℕ → List Bool
left_of it end = bits_between it.bits (order_of it) it.start end it.memory

-- the status of these bits
abbrev pub status_of_left : Operand → ℕ → ℕ
status_of_left it end = left_status it.bits it.order it.words it.start end

-- A call that takes `count` bits: its status is that of the bits that are left, and behind that of the first of its own
-- conditions that does not hold. Where all hold, it has `Done` its work, and the place is behind these bits; else all is
-- `Kept` as it was, and the place too.
pub record TakesBits (bits_status : ℕ) (conditions : List (Type 0 × ℕ)) (old new count : ℕ) (Done Kept : Type 0) (result : ℕ) : Type 0 where
  pub status : IsFirstFailed ((bits_status ≡ ok, bits_status) ∷ conditions) result
  pub done : result ≡ ok → Done
  pub moved : result ≡ ok → new ≡ old + count
  pub kept : result ≢ ok → Kept
  pub stays : result ≢ ok → new ≡ old

-- the status of a reader's refusal
abbrev pub read_status : ReadError → ℕ
read_status TooFew = too_few
read_status Unended = too_few
read_status TooLarge = too_large

-- the status of a writer's refusal
abbrev pub write_status : WriteError → ℕ
write_status NoRoom = too_few
write_status TooManyDigits = too_large

-- the conditions of a number of `count` digits among `left` bits: at most 64, and as many bits are there
abbrev pub digits_conditions : ℕ → ℕ → List (Type 0 × ℕ)
digits_conditions count left = (count ≤ 64, too_wide) ∷ (count ≤ left, too_few) ∷ []

-- the number of a list's elements as digits, the first the highest, or else the lowest
abbrev pub number_by : Bool → List Bool → ℕ
number_by big xs = if big then number_be xs else number_le xs

-- the signed number whose two's complement of `count` digits that is
abbrev pub signed_by : Bool → ℕ → List Bool → ℤ
signed_by big count xs = signed_of count (number_by big xs)

-- the conditions of a code at the start of a list, of which the number is one that the answer can be
abbrev pub code_conditions : (ℕ → Type 0) → List Bool → List (Type 0 × ℕ)
code_conditions CanBe xs = ((n : ℕ) × StartsWith xs (golomb n), too_few) ∷ ((n : ℕ) × CanBe n × StartsWith xs (golomb n), too_large) ∷ []

-- a number has the code of a signed number of 64 digits
abbrev pub IsSignedPlace : ℕ → Type 0
IsSignedPlace n = (z : ℤ) × (n ≡ signed_place z) × FitsSignedDigits 64 z

-- what reads do of a list of the bits that are left: the number of `count` digits
abbrev pub ReadsNumber : Bool → ℕ → List Bool → ℕ → ℕ → ℕ → ℕ → ℕ → ℕ → Type 0
ReadsNumber big bits_status left old new count number_old number_new result =
    TakesBits bits_status (digits_conditions count (length left)) old new count (number_new ≡ number_by big (take count left)) (number_new ≡ number_old) result

-- the signed number whose two's complement of `count` digits that is
abbrev pub ReadsSigned : Bool → ℕ → List Bool → ℕ → ℕ → ℕ → ℤ → ℤ → ℕ → Type 0
ReadsSigned big bits_status left old new count number_old number_new result =
    TakesBits bits_status (digits_conditions count (length left)) old new count (number_new ≡ signed_by big count (take count left)) (number_new ≡ number_old) result

-- how many bits are `bit` before the first that is not, which is taken too
abbrev pub ReadsUnary : Bool → ℕ → List Bool → ℕ → ℕ → ℕ → ℕ → ℕ → Type 0
ReadsUnary bit bits_status left old new count_old count_new result =
    TakesBits bits_status ((¬ AllAre bit left, too_few) ∷ []) old new (count_new + 1) (BeginsWith bit left count_new) (count_new ≡ count_old) result

-- the number of an Exp-Golomb code
abbrev pub ReadsCode : ℕ → List Bool → ℕ → ℕ → ℕ → ℕ → ℕ → Type 0
ReadsCode bits_status left old new number_old number_new result =
    TakesBits bits_status (code_conditions (λ n. n < 2 ^ 64) left) old new (length (golomb number_new)) (StartsWith left (golomb number_new)) (number_new ≡ number_old) result

-- the signed number of one
abbrev pub ReadsSignedCode : ℕ → List Bool → ℕ → ℕ → ℤ → ℤ → ℕ → Type 0
ReadsSignedCode bits_status left old new number_old number_new result =
    let code = golomb (signed_place number_new) in
    TakesBits bits_status (code_conditions IsSignedPlace left) old new (length code) (StartsWith left code) (number_new ≡ number_old) result

-- A call that reads a number of `count` digits from the start of a part, to before an end, and moves the start's place from
-- there to `place`.
abbrev pub IsRead : Bool → Operand → ℕ → ℕ → ℕ → ℕ → ℕ → ℕ → Type 0
IsRead big it end place count number_old number_new result = ReadsNumber big (status_of_left it end) (left_of it end) it.start place count number_old number_new result

-- the same of a signed number
abbrev pub IsSignedRead : Bool → Operand → ℕ → ℕ → ℕ → ℤ → ℤ → ℕ → Type 0
IsSignedRead big it end place count number_old number_new result = ReadsSigned big (status_of_left it end) (left_of it end) it.start place count number_old number_new result

-- the same of a number in unary
abbrev pub IsUnaryRead : Bool → Operand → ℕ → ℕ → ℕ → ℕ → ℕ → Type 0
IsUnaryRead bit it end place count_old count_new result = ReadsUnary bit (status_of_left it end) (left_of it end) it.start place count_old count_new result

-- the same of a code
abbrev pub IsCodeRead : Operand → ℕ → ℕ → ℕ → ℕ → ℕ → Type 0
IsCodeRead it end place number_old number_new result = ReadsCode (status_of_left it end) (left_of it end) it.start place number_old number_new result

-- the same of a signed number's code
abbrev pub IsSignedCodeRead : Operand → ℕ → ℕ → ℤ → ℤ → ℕ → Type 0
IsSignedCodeRead it end place number_old number_new result = ReadsSignedCode (status_of_left it end) (left_of it end) it.start place number_old number_new result

-- the digits of a number, the first the highest, or else the lowest
abbrev pub digits_by : Bool → ℕ → ℕ → List Bool
digits_by big count number = if big then digits_be count number else digits_le count number

-- the conditions of a number's `count` digits among `left` bits: at most 64, as many bits are there, and it has no more
abbrev pub written_conditions : ℕ → Type 0 → ℕ → List (Type 0 × ℕ)
written_conditions count IsShort left = (count ≤ 64, too_wide) ∷ (count ≤ left, too_few) ∷ (IsShort, too_large) ∷ []

-- What writes do of the bits of a memory from place `old` on: the first become those of a list, and every other bit of the
-- memory stays.
abbrev pub WritesBits : List (Type 0 × ℕ) → List Bool → ℕ → ℕ → (ℕ → ℕ) → ℕ → ℕ → List ℕ → List ℕ → ℕ → Type 0
WritesBits conditions xs bits_status bits at old new memory_old memory_new result =
    TakesBits bits_status conditions old new (length xs) (RangeBecomes bits at old (length xs) xs memory_old memory_new) (memory_new ≡ memory_old) result

-- what writes do of the bits from place `old` on to before place `end`: the `count` digits of a number
abbrev pub WritesNumber : Bool → ℕ → ℕ → (ℕ → ℕ) → ℕ → ℕ → ℕ → List ℕ → List ℕ → ℕ → ℕ → ℕ → Type 0
WritesNumber big bits_status bits at old new end memory_old memory_new count number result =
    let left = length (bits_between bits at old end memory_old) in
    WritesBits (written_conditions count (number < 2 ^ count) left) (digits_by big count number) bits_status bits at old new memory_old memory_new result

-- the two's complement of `count` digits of a signed number
abbrev pub WritesSigned : Bool → ℕ → ℕ → (ℕ → ℕ) → ℕ → ℕ → ℕ → List ℕ → List ℕ → ℕ → ℤ → ℕ → Type 0
WritesSigned big bits_status bits at old new end memory_old memory_new count number result =
    let left = length (bits_between bits at old end memory_old) in
    WritesBits (written_conditions count (FitsSignedDigits count number) left) (digits_by big count (complement_of count number)) bits_status bits at old new memory_old memory_new result

-- `count` bits that are `bit`, and one that is not
abbrev pub WritesUnary : Bool → ℕ → ℕ → (ℕ → ℕ) → ℕ → ℕ → ℕ → List ℕ → List ℕ → ℕ → ℕ → Type 0
WritesUnary bit bits_status bits at old new end memory_old memory_new count result =
    let left = length (bits_between bits at old end memory_old) in
    WritesBits ((count < left, too_few) ∷ []) (replicate count bit ++ not bit ∷ []) bits_status bits at old new memory_old memory_new result

-- the Exp-Golomb code of a number
abbrev pub WritesCode : ℕ → ℕ → (ℕ → ℕ) → ℕ → ℕ → ℕ → List ℕ → List ℕ → ℕ → ℕ → Type 0
WritesCode bits_status bits at old new end memory_old memory_new number result =
    let left = length (bits_between bits at old end memory_old) in
    WritesBits ((length (golomb number) ≤ left, too_few) ∷ []) (golomb number) bits_status bits at old new memory_old memory_new result

-- A call that writes the `count` digits of a number from the start of a part on, before an end, and moves the start's place
-- behind them.
abbrev pub IsNumberWrite : Bool → Operand → Operand → ℕ → ℕ → ℕ → ℕ → ℕ → Type 0
IsNumberWrite big old new end place count number result =
    WritesNumber big (status_of_left old end) old.bits (order_of old) old.start place end old.memory new.memory count number result

-- the same of the two's complement of a signed number
abbrev pub IsSignedWrite : Bool → Operand → Operand → ℕ → ℕ → ℕ → ℤ → ℕ → Type 0
IsSignedWrite big old new end place count number result =
    WritesSigned big (status_of_left old end) old.bits (order_of old) old.start place end old.memory new.memory count number result

-- the same of `count` bits that are `bit`, and one that is not
abbrev pub IsUnaryWrite : Bool → Operand → Operand → ℕ → ℕ → ℕ → ℕ → Type 0
IsUnaryWrite bit old new end place count result =
    WritesUnary bit (status_of_left old end) old.bits (order_of old) old.start place end old.memory new.memory count result

-- the same of a number's Exp-Golomb code
abbrev pub IsCodeWrite : Operand → Operand → ℕ → ℕ → ℕ → ℕ → Type 0
IsCodeWrite old new end place number result =
    WritesCode (status_of_left old end) old.bits (order_of old) old.start place end old.memory new.memory number result

-- the same of a signed number's code
abbrev pub IsSignedCodeWrite : Operand → Operand → ℕ → ℕ → ℤ → ℕ → Type 0
IsSignedCodeWrite old new end place number result = IsCodeWrite old new end place (signed_place number) result
