use Rattle.std.proofs.Common.{Some, sym, ap, ◌∙◌, inl, inr, arith}
use Rattle.std.proofs.lemmas.Result.{err_from_is_err_and}
use Rattle.std.proofs.lemmas.Bool.{cases_eq}
use Rattle.bitvec_verify.specs.Scan.{Candidate, candidate, masked, fault_of}
use Rattle.bitvec_verify.proofs.ScanLemmas.{start_tests_pass, start_tests_fault}
use Rattle.bitvec_verify.proofs.verify.verify_start.Given.{Over}
use Rattle.bitvec_verify.proofs.verify.verify_start.Goals as goal
use Rattle.bitvec_verify.proofs.verify.verify_start.Goals.{else-loop-upto-test, then-loop-upto-test+in_ok-verify_mask+else-upto-upto-end}

abbrev scanned : Over → Candidate
scanned g = candidate g.R.BitRegister.BITS g.O.BitAt.at_of g.O.OrderCandidate.select_of g.O.OrderCandidate.mask_of

pub returns-in_err-verify_mask : goal.returns-in_err-verify_mask
returns-in_err-verify_mask g c =
    let p = err_from_is_err_and c.from_residual.result c.from_residual.ensures.1 in
    rw (p.1, p.2) (start_tests_fault (scanned g) g.R.BitRegister.BITS c.args.from c.new_unchecked.result _
    (omega (arith, c.into_inner-upto.ensures.value, c.into_inner-upto.ensures.below, c.BITS-upto-end.ensures, c.new_unchecked.ensures))
    (omega (arith, c.BITS-upto-end.ensures, c.new_unchecked.ensures))
    (λ k q r. c.loop-upto.invariant k q (omega (arith, c.new_unchecked.ensures)))
    c.in_err-verify_mask.ensures)

pub returns : goal.returns
returns g c =
    start_tests_pass (scanned g) g.R.BitRegister.BITS c.args.from
    (λ k p q. elim c.loop-upto-test.branch [
      | else-loop-upto-test w ↦ c.loop-upto.invariant k p (omega (arith, c.BITS-upto-end.ensures, w.loop-upto-test.false))
      | then-loop-upto-test+in_ok-verify_mask+else-upto-upto-end w ↦ elim (cases_eq k c.loop-upto.upto) [
        | inl same ↦ ap (λ i. fault_of (scanned g) (masked (Some c.args.from) (Some i))) (same ∙ sym w.new_unchecked.ensures) ∙ w.in_ok-verify_mask.ensures
        | inr other ↦ c.loop-upto.invariant k p (omega (arith, c.BITS-upto-end.ensures))
      ]
    ])
