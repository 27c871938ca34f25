use Rattle.bitvec_slice.proofs.WordListLemmas.{turned_lowest}
use Rattle.bitvec_slice.proofs.slice.ahead.turned_at.Goals as goal

pub returns-in-Rises : goal.returns-in-Rises
returns-in-Rises g c = turned_lowest (c.direction_of.ensures.rises.0 c.in-Rises.is) c.requires c.without_lowest_one.ensures.digits
