use Rattle.example_life.proofs.LifeLemmas.{tally_none}
use Rattle.example_life.proofs.counts.Counts.zero.Goals as goal

pub returns : goal.returns
returns g c = λ j inside.
    tally_none (c.none.ensures j inside) (c.none-2.ensures j inside) (c.none-3.ensures j inside)
