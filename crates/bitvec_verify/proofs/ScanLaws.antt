-- A candidate is lawful exactly where its scan finds no fault.
use Rattle.std.proofs.Common.{◌≡◌, ◌↔◌, ℕ, ◌<◌, Bool, true, false, IsTrue, Option, Some, None, Result, Ok, Err, OnOk, IsOk, refl, sym, subst, inl, inr, arith}
use Rattle.std.proofs.lemmas.Bool.{cases_Bool, cases_order, false≢true}
use Rattle.bitvec_mem.specs.Digit.{digit}
use Rattle.bitvec_mem.specs.SameDigits.{same_from_digits}
use Rattle.bitvec_order.specs.Masks.{AreBounds}
use Rattle.bitvec_order.specs.Order.{mask_start, mask_end, IsMaskOf}
use Rattle.bitvec_order.specs.OrderLemmas.{plain_mask_is_mask}
use Rattle.bitvec_verify.specs.Scan.{Candidate, IsLawful, masked, is_repeated, wanted_mask, fault_of, first_fault, pair_tests, absent_tests, tests}
use Rattle.bitvec_verify.specs.Verified.{fault_in}
use Rattle.bitvec_verify.specs.declared.verify.OrderFault.{OrderFault}
use Rattle.bitvec_verify.proofs.ScanLemmas.{lower-from_repeated, selector_passes, selector-from_pass, repetition_passes, repetition-from_pass, mask_passes, mask-from_pass, index_tests_pass, index_tests-from_pass, start_tests_pass, pair_tests_pass, pair-from_pass, absent_tests_pass, absent-from_pass, tests-absent_fault, parts-from_pass}

-- two truth values that follow from one another
same_truth : (a b : Bool) → (IsTrue a → IsTrue b) → (IsTrue b → IsTrue a) → a ≡ b
same_truth true true f h = refl
same_truth true false f h = sym (f refl)
same_truth false true f h = h refl
same_truth false false f h = refl

-- a set has one mask
same_mask : (width : ℕ) (at : ℕ → ℕ) (from upto m n : ℕ) → IsMaskOf width at from upto m → IsMaskOf width at from upto n → m ≡ n
same_mask width at from upto m n f h =
    same_from_digits width m n f.below h.below (λ p l. same_truth (digit m p) (digit n p) (λ x. (h.ones p l).1 ((f.ones p l).0 x)) (λ x. (f.ones p l).1 ((h.ones p l).0 x)))

module _ (c : Candidate) where
  -- the wanted mask has the set that the law asks for
  wanted_is_mask : ((i : ℕ) → i < c.width → c.at i < c.width) → (from upto : Option ℕ) → AreBounds c.width from upto → IsMaskOf c.width c.at (mask_start from) (mask_end c.width upto) (wanted_mask c from upto)
  wanted_is_mask below from upto b = plain_mask_is_mask c.width c.at (mask_start from) (mask_end c.width upto) (λ i h k. below i (let end = b.end in omega arith))

  -- each mask of a lawful candidate passes
  mask_passes-from_lawful : IsLawful c → (from upto : Option ℕ) → AreBounds c.width from upto → fault_of c (masked from upto) ≡ None
  mask_passes-from_lawful law from upto b =
      mask_passes c from upto (c.mask from upto) (wanted_mask c from upto) refl refl
      (same_mask c.width c.at (mask_start from) (mask_end c.width upto) _ _ (law.masks.sets from upto b.start b.end b.ordered) (wanted_is_mask law.one_to_one.below from upto b))

  -- no position of a lawful candidate is repeated
  not_repeated : IsLawful c → (i : ℕ) → i < c.width → is_repeated c.at i ≡ false
  not_repeated law i h =
      elim (cases_Bool (is_repeated c.at i)) [
        | inl found ↦ (let r = lower-from_repeated c.at i found in let lower : r.0 < i = r.1 in absurd (omega (arith, law.one_to_one.apart r.0 i (omega arith) h r.2)))
        | inr none ↦ none
      ]

  -- a lawful candidate passes the scan
  pub no_fault-from_lawful : 0 < c.width → IsLawful c → first_fault c (tests c.width) ≡ None
  no_fault-from_lawful some law =
      tests-absent_fault c c.width None
      (index_tests_pass c c.width (λ k h. (
        selector_passes c k (c.select k) _ refl refl (law.selects.powers k h),
        repetition_passes c k (not_repeated law k h),
      )))
      (pair_tests_pass c c.width (λ k h. start_tests_pass c c.width k (λ u p q. mask_passes-from_lawful law (Some k) (Some u) (record { start = h; end = q; ordered = p }))))
      (absent_tests_pass c c.width
      (mask_passes-from_lawful law None None (record { start = some; end = omega arith; ordered = omega arith }))
      (λ k h. mask_passes-from_lawful law (Some k) None (record { start = h; end = omega arith; ordered = omega arith }))
      (λ k h. mask_passes-from_lawful law None (Some k) (record { start = some; end = h; ordered = omega arith })))

  -- a mask that passes has the set that the law asks for
  mask-from_no_fault : ((i : ℕ) → i < c.width → c.at i < c.width) → (from upto : Option ℕ) → AreBounds c.width from upto → fault_of c (masked from upto) ≡ None → IsMaskOf c.width c.at (mask_start from) (mask_end c.width upto) (c.mask from upto)
  mask-from_no_fault below from upto b e =
      subst (λ n. IsMaskOf c.width c.at (mask_start from) (mask_end c.width upto) n) (sym (mask-from_pass c from upto e)) (wanted_is_mask below from upto b)

  -- where the scan passes, each mask has
  masks-from_no_fault : ((i : ℕ) → i < c.width → c.at i < c.width) → first_fault c (pair_tests c.width) ≡ None → first_fault c (absent_tests c.width) ≡ None → (from upto : Option ℕ) → AreBounds c.width from upto → IsMaskOf c.width c.at (mask_start from) (mask_end c.width upto) (c.mask from upto)
  masks-from_no_fault below e f (Some i) (Some u) b = mask-from_no_fault below (Some i) (Some u) b (pair-from_pass c c.width e i u b.start b.ordered b.end)
  masks-from_no_fault below e f (Some i) None b = mask-from_no_fault below (Some i) None b ((absent-from_pass c c.width f).1 i b.start)
  masks-from_no_fault below e f None (Some u) b = mask-from_no_fault below None (Some u) b ((absent-from_pass c c.width f).2 u b.end)
  masks-from_no_fault below e f None None b = mask-from_no_fault below None None b (absent-from_pass c c.width f).0

  -- a candidate that passes the scan is lawful, where its positions are below the width
  pub lawful-from_no_fault : ((i : ℕ) → i < c.width → c.at i < c.width) → first_fault c (tests c.width) ≡ None → IsLawful c
  lawful-from_no_fault below e =
      let parts = parts-from_pass c c.width e in
      record {
        one_to_one = record {
          below = below;
          apart = λ i j p q x. elim (cases_order i j) [
            | inl same ↦ same
            | inr (inl lower) ↦ absurd (repetition-from_pass c j (index_tests-from_pass c c.width parts.0 j q).1 i lower x)
            | inr (inr higher) ↦ absurd (repetition-from_pass c i (index_tests-from_pass c c.width parts.0 i p).1 j higher (sym x))
          ];
        };
        selects = record { powers = λ i h. selector-from_pass c i (index_tests-from_pass c c.width parts.0 i h).0 };
        masks = record { sets = λ from upto a b d. masks-from_no_fault below parts.1 parts.2 from upto (record { start = a; end = b; ordered = d }) };
      }

  -- what the answer of the scan says
  pub lawful_iff_ok : {R T : Type 0} (r : Result T (OrderFault R)) → 0 < c.width → first_fault c (tests c.width) ≡ fault_in r → OnOk r ((i : ℕ) → i < c.width → c.at i < c.width) → IsOk r ↔ IsLawful c
  lawful_iff_ok (Ok x) some first below = (λ e. lawful-from_no_fault below first, λ law. refl)
  lawful_iff_ok (Err f) some first below = (λ e. absurd (false≢true e), λ law. absurd (let none = no_fault-from_lawful some law in cc))
