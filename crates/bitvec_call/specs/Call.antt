-- What a call promises, and the operands that calls speak of: bits of a memory from a place on.
use Rattle.std.specs.Prelude.{◌≡◌, ◌≢◌, ◌↔◌, ◌==◌, IsTrue, ℕ, ℤ, Bool, ◌&&◌, ◌||◌, not, if◌then◌else◌, List, length, map}
use Rattle.bitvec.specs.Digit.{exclusive_or}
use Rattle.bitvec.specs.Memory.{bit_of, zip_with}
use Rattle.bitvec_slice.specs.Signed.{signed_of}
use Rattle.bitvec_call.specs.Number.{loaded_number, StoresNumber}
use Rattle.bitvec_call.specs.Order.{order_at, rises}
use Rattle.bitvec_call.specs.Range.{range_bits, RangeBecomes, WritesBit, ExchangesBits, CopiesBits, CombinesBits}
use Rattle.bitvec_call.specs.Seek.{pair_count, IsFirstPair}
use Rattle.bitvec_call.specs.Status.{ok, range_status, ranges_status, number_status, moved_status, pair_status}

-- the call returns the status `wanted`; it has `Done` its work where that is `ok`, and else all is `Kept` as it was
pub record IsCall (wanted : ℕ) (Done Kept : Type 0) (result : ℕ) : Type 0 where
  pub status : result ≡ wanted
  pub done : result ≡ ok → Done
  pub refused : result ≢ ok → Kept

-- The bits of a memory from place `start` on: the width of a word, an order by its code, how many words there are, and the
-- number of each.
pub record Operand : Type 0 where
  pub bits : ℕ
  pub order : ℕ
  pub start : ℕ
  pub words : ℕ
  pub memory : List ℕ

-- that of a memory of words, each of which has a number
abbrev pub operand : {W : Type 0} → (W → ℕ) → ℕ → ℕ → ℕ → List W → Operand
operand number bits order start words = record { bits = bits; order = order; start = start; words = length words; memory = map number words }

-- the same of words of 8 bits, each its number
abbrev pub u8_at : ℕ → ℕ → List ℕ → Operand
u8_at order start words = operand (λ n. n) 8 order start words

-- of 16 bits
abbrev pub u16_at : ℕ → ℕ → List ℕ → Operand
u16_at order start words = operand (λ n. n) 16 order start words

-- of 32 bits
abbrev pub u32_at : ℕ → ℕ → List ℕ → Operand
u32_at order start words = operand (λ n. n) 32 order start words

-- of 64 bits
abbrev pub u64_at : ℕ → ℕ → List ℕ → Operand
u64_at order start words = operand (λ n. n) 64 order start words

-- the order of an operand: it takes an index in a word to its position in the number
abbrev pub order_of : Operand → ℕ → ℕ
order_of it = order_at it.bits it.order

-- the first `count` bits of an operand
abbrev pub operand_bits : Operand → ℕ → List Bool
operand_bits it count = range_bits it.bits (order_of it) it.start count it.memory

-- the status of the first `count` bits of an operand
abbrev pub operand_status : Operand → ℕ → ℕ
operand_status it count = range_status it.bits it.order it.words it.start count

-- the status of the first `count` bits of two operands
abbrev pub operands_status : Operand → Operand → ℕ → ℕ
operands_status it other count = pair_status it.bits it.order it.words it.start other.bits other.order other.words other.start count

-- the first `count` bits of an operand become those of a list, and all else stays
abbrev pub OperandBecomes : Operand → Operand → ℕ → List Bool → Type 0
OperandBecomes old new count xs = RangeBecomes old.bits (order_of old) old.start count xs old.memory new.memory

-- the status of the first `count` bits of two operands, and then of a third
abbrev pub three_operands_status : Operand → Operand → Operand → ℕ → ℕ
three_operands_status it other third count = let first = operands_status it other count in if first == ok then operand_status third count else first

-- a call that answers something of the first `count` bits of an operand
abbrev pub IsAnswer : Operand → ℕ → (List Bool → Type 0) → Type 0 → ℕ → Type 0
IsAnswer it count Done Kept result = IsCall (operand_status it count) (Done (operand_bits it count)) Kept result

-- a call that answers where something is in the first `count` bits of an operand, as `Found` says, and `count` where it is nowhere
abbrev pub IsSearch : Operand → ℕ → (List Bool → ℕ → ℕ → Type 0) → ℕ → ℕ → ℕ → Type 0
IsSearch it count Found old new result = IsAnswer it count (λ xs. Found xs count new) (new ≡ old) result

-- a call that answers the first bit of an operand
abbrev pub IsBitRead : Operand → Bool → Bool → ℕ → Type 0
IsBitRead it old new result = IsCall (operand_status it 1) (new ≡ bit_of it.bits (order_of it) it.memory it.start) (new ≡ old) result

-- a call that makes the first bit of an operand `bit`, and changes no other
abbrev pub IsBitWrite : Operand → Operand → Bool → ℕ → Type 0
IsBitWrite old new bit result = IsCall (operand_status old 1) (WritesBit old.bits (order_of old) old.start bit old.memory new.memory) (new.memory ≡ old.memory) result

-- the same that answers the bit before
abbrev pub IsReplacement : Operand → Operand → Bool → Bool → Bool → ℕ → Type 0
IsReplacement old new bit before_old before_new result =
    IsCall (operand_status old 1)
    (WritesBit old.bits (order_of old) old.start bit old.memory new.memory × (before_new ≡ bit_of old.bits (order_of old) old.memory old.start))
    ((new.memory ≡ old.memory) × (before_new ≡ before_old)) result

-- a call that exchanges the first bit of an operand and the one at another place, and changes no other
abbrev pub IsExchange : Operand → Operand → ℕ → ℕ → Type 0
IsExchange old new other result =
    IsCall (ranges_status old.bits old.order old.words old.start old.words other 1)
    (ExchangesBits old.bits (order_of old) old.start other old.memory new.memory)
    (new.memory ≡ old.memory) result

-- a call that makes another list of the first `count` bits of an operand
abbrev pub IsEdit : Operand → Operand → ℕ → (List Bool → List Bool) → ℕ → Type 0
IsEdit old new count f result = IsCall (operand_status old count) (OperandBecomes old new count (f (operand_bits old count))) (new.memory ≡ old.memory) result

-- the same where each bit moves by a number of places
abbrev pub IsMove : ℕ → Operand → Operand → ℕ → (List Bool → List Bool) → ℕ → Type 0
IsMove by old new count f result =
    IsCall (moved_status old.bits old.order old.words old.start count by) (OperandBecomes old new count (f (operand_bits old count))) (new.memory ≡ old.memory) result

-- a call that copies the first `count` bits of an operand to another under the same order
abbrev pub IsCopy : Operand → Operand → Operand → ℕ → ℕ → Type 0
IsCopy source old new count result =
    IsCall (operands_status source old count) (CopiesBits old.bits (order_of old) source.memory source.start old.memory old.start count new.memory) (new.memory ≡ old.memory) result

-- The same where the orders and the words of the two may differ. The target is what `at` makes of place `to` and of the words
-- of its memory, as `u8_at order` does; these are `old` before the call, and `new` after it.
abbrev pub IsPut : {W : Type 0} → Operand → (ℕ → List W → Operand) → ℕ → List W → List W → ℕ → ℕ → Type 0
IsPut source at to old new count result =
    IsCall (operands_status source (at to old) count) (OperandBecomes (at to old) (at to new) count (operand_bits source count)) ((at to new).memory ≡ (at to old).memory) result

-- whether two bits are one
abbrev pub both : Bool → Bool → Bool
both = λ x y. x && y

-- whether at least one of two bits is one
abbrev pub either : Bool → Bool → Bool
either = λ x y. x || y

-- whether two bits differ
abbrev pub differ : Bool → Bool → Bool
differ = exclusive_or

-- whether the first of two bits is one, but not the second
abbrev pub but_not : Bool → Bool → Bool
but_not = λ x y. x && not y

-- a call that makes each of the first `count` bits of a target, named as in `IsPut`, what `f` makes of it and of the source's
abbrev pub IsCombination : {W : Type 0} → (Bool → Bool → Bool) → Operand → (ℕ → List W → Operand) → ℕ → List W → List W → ℕ → ℕ → Type 0
IsCombination f source at to old new count result =
    let target = at to old in
    IsCall (operands_status source target count) (OperandBecomes target (at to new) count (zip_with f (operand_bits target count) (operand_bits source count))) ((at to new).memory ≡ target.memory) result

-- the same under one order, where the source is place `from` of the same memory: each of its bits is what it was before
abbrev pub IsCombinationWithin : {W : Type 0} → (Bool → Bool → Bool) → (ℕ → List W → Operand) → ℕ → ℕ → List W → List W → ℕ → ℕ → Type 0
IsCombinationWithin f at from to old new count result =
    let source = at from old in
    let target = at to old in
    IsCall (operands_status source target count) (CombinesBits f target.bits (order_of target) source.memory source.start target.memory target.start count (at to new).memory) ((at to new).memory ≡ target.memory) result

-- the first `count` bits of a target become what `f` makes of those of two sources, each a place and a memory, and all else stays
abbrev pub CombinesSources : {W : Type 0} → (Bool → Bool → Bool) → (ℕ → List W → Operand) → ℕ → List W → ℕ → List W → ℕ → List W → List W → ℕ → Type 0
CombinesSources f at first_from first second_from second to old new count =
    OperandBecomes (at to old) (at to new) count (zip_with f (operand_bits (at first_from first) count) (operand_bits (at second_from second) count))

-- a call that makes them so
abbrev pub IsCombinationOf : {W : Type 0} → (Bool → Bool → Bool) → (ℕ → List W → Operand) → ℕ → List W → ℕ → List W → ℕ → List W → List W → ℕ → ℕ → Type 0
IsCombinationOf f at first_from first second_from second to old new count result =
    IsCall (three_operands_status (at first_from first) (at second_from second) (at to old) count)
    (CombinesSources f at first_from first second_from second to old new count)
    ((at to new).memory ≡ (at to old).memory) result

-- a call that answers whether the first `count` bits of two operands are the same
abbrev pub IsComparison : Operand → Operand → ℕ → Bool → Bool → ℕ → Type 0
IsComparison it other count old new result = IsCall (operands_status it other count) (IsTrue new ↔ (operand_bits it count ≡ operand_bits other count)) (new ≡ old) result

-- a call that answers how many of the pairs of the first `count` bits of two operands `f` makes one
abbrev pub CountsPairs : (Bool → Bool → Bool) → Operand → Operand → ℕ → ℕ → ℕ → ℕ → Type 0
CountsPairs f it other count old new result =
    IsCall (operands_status it other count) (new ≡ pair_count f (operand_bits it) (operand_bits other) count) (new ≡ old) result

-- a call that answers the index of the first pair that `f` makes one, and `count` where it makes none
abbrev pub FindsPair : (Bool → Bool → Bool) → Operand → Operand → ℕ → ℕ → ℕ → ℕ → Type 0
FindsPair f it other count old new result =
    IsCall (operands_status it other count) (IsFirstPair f (operand_bits it) (operand_bits other) count new) (new ≡ old) result

-- the number that the first `count` bits of an operand are
abbrev pub operand_number : Bool → Operand → ℕ → ℕ
operand_number big it count = loaded_number big it.bits (rises it.order) (order_of it) it.start count it.memory

-- a call that answers that number
abbrev pub IsLoad : Bool → Operand → ℕ → ℕ → ℕ → ℕ → Type 0
IsLoad big it count old new result = IsCall (number_status it.bits it.order it.words it.start count) (new ≡ operand_number big it count) (new ≡ old) result

-- a call that answers the signed number whose two's complement of `count` digits that number is
abbrev pub IsSignedLoad : Bool → Operand → ℕ → ℤ → ℤ → ℕ → Type 0
IsSignedLoad big it count old new result =
    IsCall (number_status it.bits it.order it.words it.start count) (new ≡ signed_of count (operand_number big it count)) (new ≡ old) result

-- the bits of a range of words, each of which has a number, become the lowest digits of one under the order of a code
abbrev pub MemoryStores : {W : Type 0} → Bool → (W → ℕ) → ℕ → ℕ → ℕ → ℕ → ℕ → List W → List W → Type 0
MemoryStores big number bits order start count value old new =
    StoresNumber big bits (rises order) (order_at bits order) start count value (map number old) (map number new)

-- the first `count` bits of an operand become the lowest digits of a number, and all else stays
abbrev pub OperandStores : Bool → Operand → Operand → ℕ → ℕ → Type 0
OperandStores big old new count number = StoresNumber big old.bits (rises old.order) (order_of old) old.start count number old.memory new.memory

-- a call that stores them
abbrev pub IsStore : Bool → Operand → Operand → ℕ → ℕ → ℕ → Type 0
IsStore big old new count number result =
    IsCall (number_status old.bits old.order old.words old.start count) (OperandStores big old new count number) (new.memory ≡ old.memory) result
