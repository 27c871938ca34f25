use Rattle.std.proofs.Common.{◌+◌, ◌-◌, ◌*◌, ◌/◌, ◌<◌, ◌≤◌, ◌⊎◌, inl, inr, length, get_or, arith, ap}
use Rattle.std.specs.Char.{digit_value}
use Rattle.std.proofs.lemmas.Int.Digits.{digits_value_more, digits_more}
use Rattle.bits_text.proofs.NumberLemmas.{AllDigits-at, value_front, past_most, within_most}
use Rattle.bits_text.proofs.number.number.Goals as goal
use Rattle.bits_text.proofs.number.number.Goals.{then-d-most-via-then-d-most, then-d-most-via-else-d-most+then-n-most}

pub returns-in_default : goal.returns-in_default
returns-in_default c =
    let e = c.as_bytes-b-items.ensures.value in
    λ all. c.in_default.ensures.value (rw e (AllDigits-at c.args.radix c.args.text.now c.loop-b.b-index all.0.1 (omega arith)))

pub returns-then-d-most : goal.returns-then-d-most
returns-then-d-most c =
    let l = c.loop-b in
    let a = c.args in
    let over : (a.most < c.in-Some.d) ⊎ ((c.in-Some.d ≤ a.most) × ((a.most - c.in-Some.d) / a.radix < l.n)) =
    elim c.then-d-most.branch [ then-d-most-via-then-d-most w ↦ inl w.if-d-most.true | then-d-most-via-else-d-most+then-n-most w ↦ inr (w.if-d-most.false, w.if-n-most.true) ] in
    let past = past_most l.n a.radix c.in-Some.d a.most (omega (arith, c.requires.low)) over in
    let place : l.b-index < length a.text.now = omega arith in
    let read = rw c.as_bytes-b-items.ensures.value at c.in-Some.ensures.value.1 in
    let more = digits_value_more a.radix a.text.now l.b-index place in
    let known = ap (λ v. v * a.radix + digit_value (get_or a.text.now l.b-index 0)) l.invariant.value in
    let front = value_front a.radix a.text.now (l.b-index + 1) (omega (arith, c.requires.low)) in
    λ all. omega (arith, past, more, known, front, read, all.1)

pub loop-b-preserved : goal.loop-b-preserved
loop-b-preserved c =
    let l = c.loop-b in
    let a = c.args in
    let place : l.b-index < length a.text.now = omega arith in
    let read = rw c.as_bytes-b-items.ensures.value at c.in-Some.ensures.value.1 in
    let fits = rw c.as_bytes-b-items.ensures.value at c.in-Some.ensures.value.0 in
    let more = digits_value_more a.radix a.text.now l.b-index place in
    record {
      digits = digits_more a.radix a.text.now l.b-index place l.invariant.digits fits;
      value = rw (more, ← l.invariant.value, ← read);
      small = within_most l.n a.radix c.in-Some.d a.most (omega (arith, c.requires.low)) c.if-d-most.false c.if-n-most.false;
    }
