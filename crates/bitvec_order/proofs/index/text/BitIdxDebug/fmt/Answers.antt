use Rattle.std.proofs.Common.{◌∙◌}
use Rattle.bitvec_mem.proofs.StyledWrites.{WritesOnOk-from_styled}
use Rattle.bitvec_order.proofs.index.text.BitIdxDebug.fmt.Goals as goal

pub returns-clause-styled : goal.returns-clause-styled
returns-clause-styled g c = rw (c.from.ensures ∙ c.INDX.ensures, c.from-index.ensures ∙ c.into_inner.ensures.value) at c.write_debug.ensures.styled

pub returns-clause-writes : goal.returns-clause-writes
returns-clause-writes g c = WritesOnOk-from_styled _ _ _ _ _ (returns-clause-styled g c)
