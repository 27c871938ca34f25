use Rattle.std.proofs.Common.{arith}
use Rattle.bitvec_array.specs.BitArray.{array_bits}
use Rattle.example_life.proofs.LifeLemmas.{next_in}
use Rattle.example_life.proofs.life.row_after.Goals as goal

pub returns : goal.returns
returns g c = λ j inside.
    let above = c.before-above.ensures in
    let below = c.behind-below.ensures in
    next_in array_bits c.args.rows.now c.args.i j _ c.requires
    above.place above.below below.place below.below
    c.index-rows-above.is c.index-rows-i.is c.index-rows-below.is (c.next_row.ensures j inside)
