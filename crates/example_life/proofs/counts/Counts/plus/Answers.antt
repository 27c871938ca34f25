use Rattle.example_life.proofs.LifeLemmas.{plus_at}
use Rattle.example_life.proofs.counts.Counts.plus.Goals as goal

pub returns : goal.returns
returns g c = λ j n inside tally.
    plus_at _ _ _ n (c.both-carry.ensures j inside) (c.one_alone-ones.ensures j inside)
    (c.one_alone-twos.ensures j inside) (c.both.ensures j inside)
    (c.either-fours.ensures j inside) tally
