use Rattle.std.proofs.Common.{rules, of_calls}
use Rattle.bitvec_span.proofs.ItemLemmas.{value_of-whole}
use Rattle.bitvec_span.proofs.CallLemmas.{called_none, called_first}
use Rattle.bitvec_span.proofs.domain.each.hand_whole.Goals as goal

pub loop-word-preserved : goal.loop-word-preserved
loop-word-preserved g c =
    let value = value_of-whole g.R.BitRegister.BITS g.O.BitAt.at_of (g.R.BitRegister.number c.in-Some.word.now) g.met.O.BitOrder.one_to_one c.to_u128-number.ensures.below in
    (search (rules, of_calls), λ last behind. c.loop-word.invariant.1 last (called_first g.R.BitRegister.number _ _ _ c.in-Some.more.now c.in-Some.word.now c.loop-word.f c.f.new.self last c.in-Some.ensures.cases.0 value (search (rules, of_calls)) behind))

pub returns-clause-called : goal.returns-clause-called
returns-clause-called g c = c.loop-word.invariant.1 c.loop-word.f (called_none g.R.BitRegister.number _ _ _ _ c.in_default.ensures.cases)
