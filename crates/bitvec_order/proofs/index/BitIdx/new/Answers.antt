use Rattle.std.proofs.Common.{refl, arith}
use Rattle.std.proofs.lemmas.Bool.{false≢true}
use Rattle.bitvec_order.proofs.index.BitIdx.new.Goals as goal

pub invariant_of-result : goal.invariant_of-result
invariant_of-result g c = omega arith

pub returns-then-idx-BITS-clause-accepted : goal.returns-then-idx-BITS-clause-accepted
returns-then-idx-BITS-clause-accepted g c = (λ _. omega arith, λ _. refl)

pub returns-then-idx-BITS-clause-refused : goal.returns-then-idx-BITS-clause-refused
returns-then-idx-BITS-clause-refused g c = (λ e. absurd (false≢true e), λ h. absurd (omega arith))
