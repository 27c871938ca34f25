use Rattle.std.proofs.Common.{◌∙◌}
use Rattle.bitvec_array.specs.BitArray.{array_bits}
use Rattle.example_life.proofs.LifeLemmas.{next_of}
use Rattle.example_life.proofs.life.next_row.Goals as goal

pub returns : goal.returns
returns g c = λ j inside.
    let it = c.args in
    let above = c.plus_around-above_it.ensures j 0 inside (c.zero.ensures j inside) in
    let beside = c.plus_beside-beside_it.ensures j _ inside above in
    let all = c.lives.ensures j _ inside (c.plus_around.ensures j _ inside beside) in
    all ∙ next_of (array_bits it.above.now) (array_bits it.row.now) (array_bits it.below.now) j
