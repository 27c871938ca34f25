use Rattle.std.proofs.Common.{Bool, List, length, min, refl, inl, inr}
use Rattle.std.specs.Prelude.{not}
use Rattle.bitvec_slice.specs.Bits.{AllBetween, IsLastBetween}
use Rattle.bitvec_call.proofs.FindLemmas.{at_equals}
use Rattle.bitvec_call.proofs.next.previous_in.Goals as goal

pub returns-in-Some : goal.returns-in-Some
returns-in-Some g c =
    let Found = λ (bit : Bool) (xs : List Bool).
    IsLastBetween bit xs 0 (min c.args.before (length xs)) c.in-Some.i in
    inl (at_equals Found c.if-bit.true c.bits-range.ensures.bits c.in-Some.ensures)

pub returns-in-None : goal.returns-in-None
returns-in-None g c =
    let None = λ (bit : Bool) (xs : List Bool).
    AllBetween (not bit) xs 0 (min c.args.before (length xs)) in
    inr (at_equals None c.if-bit.true c.bits-range.ensures.bits c.in-None.ensures, refl)

pub returns-in-Some-previous_zero : goal.returns-in-Some-previous_zero
returns-in-Some-previous_zero g c =
    let Found = λ (bit : Bool) (xs : List Bool).
    IsLastBetween bit xs 0 (min c.args.before (length xs)) c.in-Some-previous_zero.i in
    inl (at_equals Found c.if-bit.false c.bits-range.ensures.bits c.in-Some-previous_zero.ensures)

pub returns-in-None-previous_zero : goal.returns-in-None-previous_zero
returns-in-None-previous_zero g c =
    let None = λ (bit : Bool) (xs : List Bool).
    AllBetween (not bit) xs 0 (min c.args.before (length xs)) in
    let none = c.in-None-previous_zero.ensures in
    inr (at_equals None c.if-bit.false c.bits-range.ensures.bits none, refl)
