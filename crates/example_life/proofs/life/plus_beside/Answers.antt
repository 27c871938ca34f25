use Rattle.std.proofs.Common.{subst}
use Rattle.bitvec_array.specs.BitArray.{array_bits}
use Rattle.example_life.specs.Counts.{CountsTo}
use Rattle.example_life.proofs.LifeLemmas.{beside_of}
use Rattle.example_life.proofs.life.plus_beside.Goals as goal

pub returns : goal.returns
returns g c = λ j n inside tally.
    let all = c.plus-2.ensures j _ inside (c.plus.ensures j n inside tally) in
    let sum = beside_of (array_bits c.args.row.now) (array_bits c.right.result)
    (array_bits c.left.result) j n (c.right.ensures j inside) (c.left.ensures j inside) in
    subst (CountsTo c.plus-2.result j) sum all
