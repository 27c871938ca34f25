use Rattle.std.proofs.Common.{◌≡◌, ℕ, ◌<◌, ◌≤◌, Some, None}
use Rattle.bitvec_verify.specs.Scan.{candidate, masked, fault_of}
use Rattle.bitvec_verify.proofs.verify.verify_start.Given as goal

abbrev pub invariant-loop-upto : goal.invariant-loop-upto
invariant-loop-upto g l =
    let o = candidate g.R.BitRegister.BITS g.O.BitAt.at_of g.O.OrderCandidate.select_of g.O.OrderCandidate.mask_of in
    (k : ℕ) → l.from ≤ k → k < l.upto → fault_of o (masked (Some l.from) (Some k)) ≡ None
