use Rattle.std.proofs.Common.{arith}
use Rattle.std.proofs.lemmas.Result.{err_from_is_err_and}
use Rattle.bitvec_verify.specs.Scan.{Candidate, candidate}
use Rattle.bitvec_verify.proofs.ScanLemmas.{pair_tests_pass, pair_tests_fault}
use Rattle.bitvec_verify.proofs.verify.verify_pairs.Given.{Over}
use Rattle.bitvec_verify.proofs.verify.verify_pairs.Goals as goal

abbrev scanned : Over → Candidate
scanned g = candidate g.R.BitRegister.BITS g.O.BitAt.at_of g.O.OrderCandidate.select_of g.O.OrderCandidate.mask_of

pub returns-in_err-verify_start : goal.returns-in_err-verify_start
returns-in_err-verify_start g c =
    let p = err_from_is_err_and c.from_residual.result c.from_residual.ensures.1 in
    rw (p.1, p.2) (pair_tests_fault (scanned g) g.R.BitRegister.BITS c.new_unchecked.result _
    (omega (arith, c.BITS-from-end.ensures, c.new_unchecked.ensures))
    (λ k h. c.loop-from.invariant k (omega (arith, c.new_unchecked.ensures)))
    c.in_err-verify_start.ensures)

pub returns : goal.returns
returns g c = pair_tests_pass (scanned g) g.R.BitRegister.BITS (λ k h. c.loop-from.invariant k (omega (arith, c.BITS-from-end.ensures)))
