use Rattle.std.proofs.Common.{subst}
use Rattle.bitvec_array.specs.BitArray.{array_bits}
use Rattle.example_life.specs.Counts.{CountsTo}
use Rattle.example_life.proofs.LifeLemmas.{around_of}
use Rattle.example_life.proofs.life.plus_around.Goals as goal

pub returns : goal.returns
returns g c = λ j n inside tally.
    let all = c.plus.ensures j _ inside (c.plus_beside.ensures j n inside tally) in
    subst (CountsTo c.plus.result j) (around_of (array_bits c.args.row.now) j n) all
