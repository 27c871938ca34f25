use Rattle.std.proofs.Common.{◌≡◌, ◌≢◌, ◌<◌, ◌^◌, None, sym, ap, ◌∙◌, subst, inl, inr, arith}
use Rattle.std.proofs.lemmas.Bool.{cases_eq}
use Rattle.bitvec_verify.specs.Scan.{Candidate, candidate, selector, repetition, fault_of}
use Rattle.bitvec_verify.proofs.ScanLemmas.{selector_fault, selector_passes, repetition_fault, repetition_passes, index_tests_pass, index_tests_selector, index_tests_repetition, differ-from_test, same-from_test}
use Rattle.bitvec_verify.proofs.verify.verify_indices.Given.{Over}
use Rattle.bitvec_verify.proofs.verify.verify_indices.Goals as goal

abbrev scanned : Over → Candidate
scanned g = candidate g.R.BitRegister.BITS g.O.BitAt.at_of g.O.OrderCandidate.select_of g.O.OrderCandidate.mask_of

pub returns-then-ne-clause-first : goal.returns-then-ne-clause-first
returns-then-ne-clause-first g c =
    let index = c.new_unchecked-index.result in
    let wanted : c.select-want.result ≡ 2 ^ g.O.BitAt.at_of index = c.select-want.ensures.value ∙ ap (λ p. 2 ^ p) c.at-position.ensures in
    let other : c.select-got.result ≢ c.select-want.result =
    differ-from_test _ _ _ _ _ (g.met.R.BitRegister.eq_compares_numbers c.into_inner.result c.into_inner-in-loop-i.result (omega (arith, c.into_inner.ensures.value, c.into_inner.ensures.below)) (omega (arith, c.into_inner-in-loop-i.ensures.value, c.into_inner-in-loop-i.ensures.below))) c.into_inner.ensures.value c.into_inner-in-loop-i.ensures.value c.if-ne.ensures in
    index_tests_selector (scanned g) g.R.BitRegister.BITS index _
    (omega (arith, c.BITS-i-end.ensures, c.new_unchecked-index.ensures))
    (λ k h. c.loop-i.invariant.passed k (omega (arith, c.new_unchecked-index.ensures)))
    (selector_fault (scanned g) index c.select-got.result c.select-want.result c.select-got.ensures wanted other)

pub returns-then-is_repeated-clause-first : goal.returns-then-is_repeated-clause-first
returns-then-is_repeated-clause-first g c =
    let index = c.new_unchecked-index.result in
    let wanted : c.select-want.result ≡ 2 ^ g.O.BitAt.at_of index = c.select-want.ensures.value ∙ ap (λ p. 2 ^ p) c.at-position.ensures in
    let same : c.select-got.result ≡ c.select-want.result =
    same-from_test _ _ _ _ _ (g.met.R.BitRegister.eq_compares_numbers c.into_inner.result c.into_inner-in-loop-i.result (omega (arith, c.into_inner.ensures.value, c.into_inner.ensures.below)) (omega (arith, c.into_inner-in-loop-i.ensures.value, c.into_inner-in-loop-i.ensures.below))) c.into_inner.ensures.value c.into_inner-in-loop-i.ensures.value c.if-ne.ensures in
    index_tests_repetition (scanned g) g.R.BitRegister.BITS index _
    (omega (arith, c.BITS-i-end.ensures, c.new_unchecked-index.ensures))
    (λ k h. c.loop-i.invariant.passed k (omega (arith, c.new_unchecked-index.ensures)))
    (selector_passes (scanned g) index c.select-got.result c.select-want.result c.select-got.ensures wanted same)
    (repetition_fault (scanned g) index c.at-position.result c.at-position.ensures (sym c.if-is_repeated.ensures))

pub loop-i-preserved : goal.loop-i-preserved
loop-i-preserved g c =
    let index = c.new_unchecked-index.result in
    let place : index ≡ c.loop-i.i = c.new_unchecked-index.ensures in
    let wanted : c.select-want.result ≡ 2 ^ g.O.BitAt.at_of index = c.select-want.ensures.value ∙ ap (λ p. 2 ^ p) c.at-position.ensures in
    let same : c.select-got.result ≡ c.select-want.result =
    same-from_test _ _ _ _ _ (g.met.R.BitRegister.eq_compares_numbers c.into_inner.result c.into_inner-in-loop-i.result (omega (arith, c.into_inner.ensures.value, c.into_inner.ensures.below)) (omega (arith, c.into_inner-in-loop-i.ensures.value, c.into_inner-in-loop-i.ensures.below))) c.into_inner.ensures.value c.into_inner-in-loop-i.ensures.value c.if-ne.ensures in
    let here : (fault_of (scanned g) (selector index) ≡ None) × (fault_of (scanned g) (repetition index) ≡ None) =
    (selector_passes (scanned g) index c.select-got.result c.select-want.result c.select-got.ensures wanted same, repetition_passes (scanned g) index (sym c.if-is_repeated.ensures)) in
    record {
      below = λ k h. elim (cases_eq k c.loop-i.i) [
        | inl now ↦ subst (λ i. g.O.BitAt.at_of i < g.R.BitRegister.BITS) (place ∙ sym now) (subst (λ p. p < g.R.BitRegister.BITS) c.at-position.ensures c.select-want.ensures.below)
        | inr before ↦ c.loop-i.invariant.below k (omega arith)
      ];
      passed = λ k h. elim (cases_eq k c.loop-i.i) [
        | inl now ↦ subst (λ i. (fault_of (scanned g) (selector i) ≡ None) × (fault_of (scanned g) (repetition i) ≡ None)) (place ∙ sym now) here
        | inr before ↦ c.loop-i.invariant.passed k (omega arith)
      ];
    }

pub returns-clause-first : goal.returns-clause-first
returns-clause-first g c =
    index_tests_pass (scanned g) g.R.BitRegister.BITS (λ k h. c.loop-i.invariant.passed k (omega (arith, c.BITS-i-end.ensures)))
