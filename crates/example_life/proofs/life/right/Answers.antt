use Rattle.std.proofs.Common.{◌<◌, ap, subst, sym}
use Rattle.bitvec_array.specs.BitArray.{array_bits}
use Rattle.bitvec_array.proofs.ArrayLemmas.{length-bits}
use Rattle.example_life.proofs.LifeLemmas.{right_at}
use Rattle.example_life.proofs.life.right.Goals as goal

pub returns : goal.returns
returns g c = λ j inside.
    let long = length-bits g.O.BitAt.at_of g.row.N c.args.row.now.words in
    right_at (array_bits c.args.row.now) _ _ j (subst (λ n. j < n) (sym long) inside)
    (ap array_bits c.copy_of-turned.ensures) c.rotate_right.ensures
