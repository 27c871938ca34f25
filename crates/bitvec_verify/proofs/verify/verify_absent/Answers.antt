use Rattle.std.proofs.Common.{Some, None, sym, ap, ◌∙◌, inl, inr, arith}
use Rattle.std.proofs.lemmas.Result.{err_from_is_err_and}
use Rattle.std.proofs.lemmas.Bool.{cases_eq}
use Rattle.bitvec_verify.specs.Scan.{Candidate, candidate, masked, fault_of}
use Rattle.bitvec_verify.proofs.ScanLemmas.{absent_tests_pass, absent_tests_whole, absent_tests_from, absent_tests_upto}
use Rattle.bitvec_verify.proofs.verify.verify_absent.Given.{Over}
use Rattle.bitvec_verify.proofs.verify.verify_absent.Goals as goal
use Rattle.bitvec_verify.proofs.verify.verify_absent.Goals.{else-loop-upto-test, then-loop-upto-test+in_ok-verify_mask-3+else-upto-upto-end}

abbrev scanned : Over → Candidate
scanned g = candidate g.R.BitRegister.BITS g.O.BitAt.at_of g.O.OrderCandidate.select_of g.O.OrderCandidate.mask_of

pub returns-in_err-verify_mask : goal.returns-in_err-verify_mask
returns-in_err-verify_mask g c =
    let p = err_from_is_err_and c.from_residual.result c.from_residual.ensures.1 in
    rw (p.1, p.2) (absent_tests_whole (scanned g) g.R.BitRegister.BITS _ c.in_err-verify_mask.ensures)

pub returns-in_err-verify_mask-2 : goal.returns-in_err-verify_mask-2
returns-in_err-verify_mask-2 g c =
    let p = err_from_is_err_and c.from_residual-in_err-verify_mask-2.result c.from_residual-in_err-verify_mask-2.ensures.1 in
    rw (p.1, p.2) (absent_tests_from (scanned g) g.R.BitRegister.BITS c.new_unchecked.result _
    (omega (arith, c.BITS-from-end.ensures, c.new_unchecked.ensures))
    c.in_ok-verify_mask.ensures
    (λ k h. c.loop-from.invariant k (omega (arith, c.new_unchecked.ensures)))
    c.in_err-verify_mask-2.ensures)

pub returns-in_err-verify_mask-3 : goal.returns-in_err-verify_mask-3
returns-in_err-verify_mask-3 g c =
    let p = err_from_is_err_and c.from_residual-in_err-verify_mask-3.result c.from_residual-in_err-verify_mask-3.ensures.1 in
    rw (p.1, p.2) (absent_tests_upto (scanned g) g.R.BitRegister.BITS c.new_unchecked-in-loop-upto.result _
    (omega (arith, c.BITS-upto-end.ensures, c.new_unchecked-in-loop-upto.ensures))
    c.in_ok-verify_mask.ensures
    (λ k h. c.loop-from.invariant k (omega (arith, c.BITS-from-end.ensures)))
    (λ k h. c.loop-upto.invariant k (omega (arith, c.new_unchecked-in-loop-upto.ensures)))
    c.in_err-verify_mask-3.ensures)

pub returns : goal.returns
returns g c =
    absent_tests_pass (scanned g) g.R.BitRegister.BITS
    c.in_ok-verify_mask.ensures
    (λ k h. c.loop-from.invariant k (omega (arith, c.BITS-from-end.ensures)))
    (λ k q. elim c.loop-upto-test.branch [
      | else-loop-upto-test w ↦ c.loop-upto.invariant k (omega (arith, c.BITS-upto-end.ensures))
      | then-loop-upto-test+in_ok-verify_mask-3+else-upto-upto-end w ↦ elim (cases_eq k c.loop-upto.upto) [
        | inl same ↦ ap (λ i. fault_of (scanned g) (masked None (Some i))) (same ∙ sym w.new_unchecked-in-loop-upto.ensures) ∙ w.in_ok-verify_mask-3.ensures
        | inr other ↦ c.loop-upto.invariant k (omega (arith, c.BITS-upto-end.ensures))
      ]
    ])
