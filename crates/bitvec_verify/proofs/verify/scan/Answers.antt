use Rattle.std.proofs.lemmas.Result.{err_from_is_err_and}
use Rattle.bitvec_verify.specs.Scan.{Candidate, candidate}
use Rattle.bitvec_verify.proofs.ScanLemmas.{tests-index_fault, tests-pair_fault, tests-absent_fault}
use Rattle.bitvec_verify.proofs.verify.scan.Given.{Over}
use Rattle.bitvec_verify.proofs.verify.scan.Goals as goal

abbrev scanned : Over → Candidate
scanned g = candidate g.R.BitRegister.BITS g.O.BitAt.at_of g.O.OrderCandidate.select_of g.O.OrderCandidate.mask_of

pub returns-in_err-verify_indices-clause-first : goal.returns-in_err-verify_indices-clause-first
returns-in_err-verify_indices-clause-first g c =
    let p = err_from_is_err_and c.from_residual.result c.from_residual.ensures.1 in
    rw (p.1, p.2) (tests-index_fault (scanned g) g.R.BitRegister.BITS _ c.in_err-verify_indices.ensures.first)

pub returns-in_err-verify_pairs-clause-first : goal.returns-in_err-verify_pairs-clause-first
returns-in_err-verify_pairs-clause-first g c =
    let p = err_from_is_err_and c.from_residual-in_err-verify_pairs.result c.from_residual-in_err-verify_pairs.ensures.1 in
    rw (p.1, p.2) (tests-pair_fault (scanned g) g.R.BitRegister.BITS _ c.in_ok-verify_indices.ensures.first c.in_err-verify_pairs.ensures)

pub returns-clause-first : goal.returns-clause-first
returns-clause-first g c = tests-absent_fault (scanned g) g.R.BitRegister.BITS _ c.in_ok-verify_indices.ensures.first c.in_ok-verify_pairs.ensures c.verify_absent.ensures
