use Rattle.std.proofs.Common.{Bool, List, length, refl, inl, inr}
use Rattle.std.specs.Prelude.{not}
use Rattle.bitvec_slice.specs.Bits.{AllBetween, IsFirstBetween}
use Rattle.bitvec_call.proofs.FindLemmas.{at_equals}
use Rattle.bitvec_call.proofs.next.next_in.Goals as goal

pub returns-in-Some : goal.returns-in-Some
returns-in-Some g c =
    let Found = λ (bit : Bool) (xs : List Bool).
    IsFirstBetween bit xs c.args.from (length xs) c.in-Some.i in
    inl (at_equals Found c.if-bit.true c.bits-range.ensures.bits c.in-Some.ensures)

pub returns-in-None : goal.returns-in-None
returns-in-None g c =
    let None = λ (bit : Bool) (xs : List Bool). AllBetween (not bit) xs c.args.from (length xs) in
    inr (at_equals None c.if-bit.true c.bits-range.ensures.bits c.in-None.ensures, refl)

pub returns-in-Some-next_zero : goal.returns-in-Some-next_zero
returns-in-Some-next_zero g c =
    let Found = λ (bit : Bool) (xs : List Bool).
    IsFirstBetween bit xs c.args.from (length xs) c.in-Some-next_zero.i in
    inl (at_equals Found c.if-bit.false c.bits-range.ensures.bits c.in-Some-next_zero.ensures)

pub returns-in-None-next_zero : goal.returns-in-None-next_zero
returns-in-None-next_zero g c =
    let None = λ (bit : Bool) (xs : List Bool). AllBetween (not bit) xs c.args.from (length xs) in
    inr (at_equals None c.if-bit.false c.bits-range.ensures.bits c.in-None-next_zero.ensures, refl)
