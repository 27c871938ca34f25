use Rattle.std.proofs.Common.{◌<◌, ◌^◌, All, arith, subst}
use Rattle.std.proofs.lemmas.List.{take_all}
use Rattle.std.proofs.lemmas.List.Elements.{All-more}
use Rattle.tests_bitvec.proofs.laws.numbers_are_below.Goals as goal

pub loop-word-preserved : goal.loop-word-preserved
loop-word-preserved g c =
    let below = c.to_u128-number.ensures.below in
    All-more (λ word. g.R.BitRegister.number word < 2 ^ g.R.BitRegister.BITS) c.args.memory.now c.loop-word.word-index c.word-item.result (omega arith) c.loop-word.invariant
    (subst (λ word. g.R.BitRegister.number word < 2 ^ g.R.BitRegister.BITS) c.word-item.is below)

pub returns : goal.returns
returns g c =
    subst (λ words. All (λ word. g.R.BitRegister.number word < 2 ^ g.R.BitRegister.BITS) words) (take_all c.loop-word.word-index c.args.memory.now (omega arith)) c.loop-word.invariant
