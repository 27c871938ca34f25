use Rattle.std.proofs.Common.{arith}
use Rattle.bitvec_array.proofs.ArrayLemmas.{length-bits}
use Rattle.example_life.proofs.LifeLemmas.{next_more, next_all}
use Rattle.example_life.proofs.life.next.Goals as goal

pub loop-i-preserved : goal.loop-i-preserved
loop-i-preserved g c =
    let long = length-bits g.O.BitAt.at_of 1 in
    next_more c.loop-i.invariant (omega arith) (λ y. long y.words) _ c.row_after.ensures

pub returns : goal.returns
returns g c = next_all c.loop-i.invariant (omega arith)
