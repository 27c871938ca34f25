use Rattle.bitvec_span.proofs.CallLemmas.{called_on}
use Rattle.bitvec_span.proofs.domain.Domain.each.Goals as goal

pub returns-in-Region-clause-called : goal.returns-in-Region-clause-called
returns-in-Region-clause-called g c =
    rw c.in-Region.is (called_on g.R.BitRegister.number _ _ _ _ _ _ c.hand-in-Region.ensures.called (called_on g.R.BitRegister.number _ _ _ _ _ _ c.hand_whole.ensures.called c.hand-in-Region-2.ensures.called))
