use Rattle.std.proofs.Common.{◌≡◌, ℕ, ◌<◌, None}
use Rattle.bitvec_verify.specs.Scan.{candidate, start_tests, first_fault}
use Rattle.bitvec_verify.proofs.verify.verify_pairs.Given as goal

abbrev pub invariant-loop-from : goal.invariant-loop-from
invariant-loop-from g l =
    let o = candidate g.R.BitRegister.BITS g.O.BitAt.at_of g.O.OrderCandidate.select_of g.O.OrderCandidate.mask_of in
    (k : ℕ) → k < l.from → first_fault o (start_tests g.R.BitRegister.BITS k) ≡ None
