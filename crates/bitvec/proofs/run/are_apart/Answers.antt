use Rattle.std.proofs.Common.{arith, rules, inl, inr}
use Rattle.std.proofs.lemmas.Bool.{cases_eq}
use Rattle.bitvec_span.specs.BitSpan.{span_of}
use Rattle.bitvec_span.specs.Span.{AreDisjoint}
use Rattle.bitvec.proofs.LaterLemmas.{later_from_rest, rest_from_later}
use Rattle.bitvec.proofs.run.are_apart.Goals as goal

pub returns-then-not-is_apart : goal.returns-then-not-is_apart
returns-then-not-is_apart g c =
    ((λ no. cc), λ can. c.if-not-is_apart.ensures.1 (rest_from_later (λ a b. AreDisjoint g.R.BitRegister.BITS (span_of a) (span_of b)) c.args.spans.now c.loop-i.i c.index-spans-i.result (omega arith) c.index-spans-i.is (λ b d above below. can c.loop-i.i b d above below)))

pub loop-i-preserved : goal.loop-i-preserved
loop-i-preserved g c =
    λ a b d so_far above below.
    elim (cases_eq a c.loop-i.i) [
      | inl e ↦ rw e (later_from_rest (λ a b. AreDisjoint g.R.BitRegister.BITS (span_of a) (span_of b)) c.args.spans.now c.loop-i.i c.index-spans-i.result (omega arith) c.index-spans-i.is (c.if-not-is_apart.ensures.0 (search rules)) b d (omega arith) below)
      | inr differ ↦ c.loop-i.invariant a b d (omega arith) above below
    ]
