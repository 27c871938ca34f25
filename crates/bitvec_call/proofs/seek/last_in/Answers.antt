use Rattle.std.proofs.Common.{Bool, List, refl, inl, inr}
use Rattle.std.specs.Prelude.{not}
use Rattle.bitvec.specs.Truths.{AllAre}
use Rattle.bitvec_slice.specs.Bits.{IsLast}
use Rattle.bitvec_call.proofs.FindLemmas.{at_equals}
use Rattle.bitvec_call.proofs.seek.last_in.Goals as goal

pub returns-in-Some : goal.returns-in-Some
returns-in-Some g c =
    let Found = λ (bit : Bool) (xs : List Bool). IsLast bit xs c.in-Some.i in
    inl (at_equals Found c.if-bit.true c.bits-range.ensures.bits c.in-Some.ensures)

pub returns-in-None : goal.returns-in-None
returns-in-None g c =
    let None = λ (bit : Bool) (xs : List Bool). AllAre (not bit) xs in
    inr (at_equals None c.if-bit.true c.bits-range.ensures.bits c.in-None.ensures, refl)

pub returns-in-Some-last_zero : goal.returns-in-Some-last_zero
returns-in-Some-last_zero g c =
    let Found = λ (bit : Bool) (xs : List Bool). IsLast bit xs c.in-Some-last_zero.i in
    inl (at_equals Found c.if-bit.false c.bits-range.ensures.bits c.in-Some-last_zero.ensures)

pub returns-in-None-last_zero : goal.returns-in-None-last_zero
returns-in-None-last_zero g c =
    let None = λ (bit : Bool) (xs : List Bool). AllAre (not bit) xs in
    inr (at_equals None c.if-bit.false c.bits-range.ensures.bits c.in-None-last_zero.ensures, refl)
