use Rattle.bitvec_order.proofs.index.BitMask.sum.Goals as goal

pub returns : goal.returns
returns g c = record { union = c.sum.ensures.runs tt }
