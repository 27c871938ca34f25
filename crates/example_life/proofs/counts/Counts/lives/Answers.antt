use Rattle.example_life.proofs.LifeLemmas.{lives_at}
use Rattle.example_life.proofs.counts.Counts.lives.Goals as goal

pub returns : goal.returns
returns g c = λ j n inside tally.
    lives_at _ _ _ n (c.turned.ensures j inside) (c.both-few.ensures j inside)
    (c.either.ensures j inside) (c.both.ensures j inside) tally
