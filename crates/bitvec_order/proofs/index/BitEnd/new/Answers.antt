use Rattle.std.proofs.Common.{refl, arith}
use Rattle.std.proofs.lemmas.Bool.{false≢true}
use Rattle.bitvec_order.proofs.index.BitEnd.new.Goals as goal

pub returns-else-end-BITS-clause-accepted : goal.returns-else-end-BITS-clause-accepted
returns-else-end-BITS-clause-accepted g c = (λ e. absurd (false≢true e), λ h. absurd (omega arith))

pub returns-else-end-BITS-clause-refused : goal.returns-else-end-BITS-clause-refused
returns-else-end-BITS-clause-refused g c = (λ _. omega arith, λ _. refl)
