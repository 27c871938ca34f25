use Rattle.std.proofs.Common.{Some, arith}
use Rattle.bitvec_span.proofs.domain.partial_element_mut.PartialElementMut.mask.Goals as goal

pub mask-requires : goal.mask-requires
mask-requires g c = omega (arith, c.args.self.now.ordered)

pub returns : goal.returns
returns g c =
    let part = c.args.self.now in
    rw (c.mask.ensures, c.head.ensures, c.tail.ensures) (g.met.O.BitOrder.masks.sets (Some part.head) (Some part.tail) part.head_in part.tail_in part.ordered)
