use Rattle.tests_order.proofs.DisjointMasks.{disjoint_masks}
use Rattle.tests_order.proofs.order_laws.masks_are_disjoint.Goals as goal

pub returns : goal.returns
returns g c = disjoint_masks g.R.BitRegister.BITS g.O.BitAt.at_of g.O.OrderCandidate.mask_of g.met.O.BitOrder.one_to_one g.met.O.BitOrder.masks
