use Rattle.std.proofs.Common.{◌≡◌, ℕ, ◌<◌, None}
use Rattle.bitvec_verify.specs.Scan.{candidate, selector, repetition, fault_of}
use Rattle.bitvec_verify.proofs.verify.verify_indices.Given as goal

abbrev pub invariant-loop-i : goal.invariant-loop-i
invariant-loop-i g l =
    let o = candidate g.R.BitRegister.BITS g.O.BitAt.at_of g.O.OrderCandidate.select_of g.O.OrderCandidate.mask_of in
    record {
      below : (k : ℕ) → k < l.i → g.O.BitAt.at_of k < g.R.BitRegister.BITS;
      passed : (k : ℕ) → k < l.i → (fault_of o (selector k) ≡ None) × (fault_of o (repetition k) ≡ None);
    }
