use Rattle.std.proofs.Common.{◌<◌, length, arith, rules, inl, inr, get_or}
use Rattle.std.proofs.lemmas.Bool.{cases_eq}
use Rattle.std.proofs.lemmas.List.{get_or_default}
use Rattle.bitvec.specs.Span.{AreDisjoint}
use Rattle.bitvec.proofs.LaterLemmas.{later_from_rest, rest_from_later}
use Rattle.bitvec_call.specs.Plain.{plain_span}
use Rattle.bitvec_call.specs.declared.plain.PlainSpan.{PlainSpan}
use Rattle.bitvec_call.proofs.plain.are_apart.Goals as goal

pub returns-then-not-is_apart : goal.returns-then-not-is_apart
returns-then-not-is_apart g c =
    let none : PlainSpan = record { start = 0; count = 0 } in
    let spans = c.args.spans.now in
    let within : c.loop-i.i < length c.args.spans.now = omega arith in
    let span = get_or spans c.loop-i.i none in
    ((λ no. cc), λ can. c.if-not-is_apart.ensures.1 (rest_from_later (λ a b. AreDisjoint g.R.BitRegister.BITS (plain_span g.R.BitRegister.BITS a) (plain_span g.R.BitRegister.BITS b)) spans c.loop-i.i span within (get_or_default spans c.loop-i.i none span within) (λ b d above below. can c.loop-i.i b d above below)))

pub loop-i-preserved : goal.loop-i-preserved
loop-i-preserved g c =
    let none : PlainSpan = record { start = 0; count = 0 } in
    let spans = c.args.spans.now in
    let within : c.loop-i.i < length c.args.spans.now = omega arith in
    let span = get_or spans c.loop-i.i none in
    λ a b d so_far above below.
    elim (cases_eq a c.loop-i.i) [
      | inl e ↦ rw e (later_from_rest (λ a b. AreDisjoint g.R.BitRegister.BITS (plain_span g.R.BitRegister.BITS a) (plain_span g.R.BitRegister.BITS b)) spans c.loop-i.i span within (get_or_default spans c.loop-i.i none span within) (c.if-not-is_apart.ensures.0 (search rules)) b d (omega arith) below)
      | inr differ ↦ c.loop-i.invariant a b d (omega arith) above below
    ]
