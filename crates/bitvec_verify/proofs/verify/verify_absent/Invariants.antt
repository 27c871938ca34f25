use Rattle.std.proofs.Common.{◌≡◌, ℕ, ◌<◌, Some, None}
use Rattle.bitvec_verify.specs.Scan.{candidate, masked, fault_of}
use Rattle.bitvec_verify.proofs.verify.verify_absent.Given as goal

abbrev pub invariant-loop-from : goal.invariant-loop-from
invariant-loop-from g l =
    let o = candidate g.R.BitRegister.BITS g.O.BitAt.at_of g.O.OrderCandidate.select_of g.O.OrderCandidate.mask_of in
    (k : ℕ) → k < l.from → fault_of o (masked (Some k) None) ≡ None

abbrev pub invariant-loop-upto : goal.invariant-loop-upto
invariant-loop-upto g l =
    let o = candidate g.R.BitRegister.BITS g.O.BitAt.at_of g.O.OrderCandidate.select_of g.O.OrderCandidate.mask_of in
    (k : ℕ) → k < l.upto → fault_of o (masked None (Some k)) ≡ None
