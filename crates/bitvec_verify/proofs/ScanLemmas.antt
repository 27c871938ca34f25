-- The scan of a candidate part by part: which tests pass, and which fault is the first.
use Rattle.std.proofs.Common.{◌≡◌, ◌≢◌, ℕ, zero, suc, ◌+◌, ◌-◌, ◌<◌, ◌≤◌, ◌^◌, ◌==◌, ◌||◌, not, Bool, true, false, Option, Some, None, List, [], ◌∷◌, ◌++◌, map, refl, sym, ap, ◌∙◌, inl, inr, arith}
use Rattle.std.specs.List.{range_with_len, flat_map, list_any}
use Rattle.std.specs.Option.{option_or}
use Rattle.std.proofs.lemmas.List.Concat.{flat_map_single}
use Rattle.std.proofs.lemmas.Bool.{cases_eq, eqb-true, eq-eqb, or_cases}
use Rattle.std.proofs.lemmas.Bool.Decides.{nat_tests}
use Rattle.bitvec_verify.specs.Scan.{Candidate, Test, selector, repetition, masked, Fault, wrong_selector, repeated, wrong_mask, is_repeated, wanted_mask, fault_of, first_fault, index_tests, start_tests, pair_tests, absent_tests, tests}

-- ---- a test of one of several numbers

-- one number that passes settles it
any_at : (f : ℕ → Bool) (a n j : ℕ) → a ≤ j → j < a + n → f j ≡ true → list_any f (range_with_len a n) ≡ true
any_at f a zero j p q e = absurd (omega arith)
any_at f a (suc n) j p q e =
    elim (cases_eq j a) [
      | inl same ↦ ap (λ b. b || list_any f (range_with_len (a + 1) n)) (ap f (sym same) ∙ e)
      | inr other ↦ (let rest = any_at f (a + 1) n j (omega arith) (omega arith) e in grind (arith, nat_tests))
    ]

-- where none passes, the answer is no
any_none : (f : ℕ → Bool) (a n : ℕ) → ((j : ℕ) → a ≤ j → j < a + n → f j ≡ false) → list_any f (range_with_len a n) ≡ false
any_none f a zero h = refl
any_none f a (suc n) h =
    ap (λ b. b || list_any f (range_with_len (a + 1) n)) (h a (omega arith) (omega arith)) ∙ any_none f (a + 1) n (λ j p q. h j (omega arith) (omega arith))

-- and where it is yes, some number passes
any_found : (f : ℕ → Bool) (a n : ℕ) → list_any f (range_with_len a n) ≡ true → (j : ℕ) × (a ≤ j) × (j < a + n) × (f j ≡ true)
any_found f a zero e = absurd (cc)
any_found f a (suc n) e =
    elim (or_cases (f a) (list_any f (range_with_len (a + 1) n)) e) [
      | inl here ↦ (a, omega arith, omega arith, here)
      | inr later ↦ (let r = any_found f (a + 1) n later in (r.0, (let p = r.1 in omega arith), (let q = r.2 in omega arith), r.3))
    ]

-- an index has the position of a lower one
pub is_repeated-lower : (at : ℕ → ℕ) (i j : ℕ) → j < i → at j ≡ at i → is_repeated at i ≡ true
is_repeated-lower at i j h e = any_at (λ k. at k == at i) 0 (i - 0) j (omega arith) (omega arith) (eq-eqb (at j) (at i) e)

-- or none
pub is_repeated-none : (at : ℕ → ℕ) (i : ℕ) → ((j : ℕ) → j < i → (at j == at i) ≡ false) → is_repeated at i ≡ false
is_repeated-none at i h = any_none (λ k. at k == at i) 0 (i - 0) (λ j p q. h j (omega arith))

-- what a repetition means
pub lower-from_repeated : (at : ℕ → ℕ) (i : ℕ) → is_repeated at i ≡ true → (j : ℕ) × (j < i) × (at j ≡ at i)
lower-from_repeated at i e =
    let r = any_found (λ k. at k == at i) 0 (i - 0) e in
    (r.0, (let q = r.2 in omega arith), eqb-true (at r.0) (at i) r.3)

-- ---- the first of two faults

-- three faults, grouped either way
option_or-assoc : {A : Type 0} (x y z : Option A) → option_or (option_or x y) z ≡ option_or x (option_or y z)
option_or-assoc (Some a) y z = refl
option_or-assoc None y z = refl

-- where there is no fault, neither part has one
both_none : {A : Type 0} (x y : Option A) → option_or x y ≡ None → (x ≡ None) × (y ≡ None)
both_none (Some a) y e = absurd (cc)
both_none None y e = (refl, e)

-- and the other way round
none_of_both : {A : Type 0} (x y : Option A) → x ≡ None → y ≡ None → option_or x y ≡ None
none_of_both x y e f = ap (λ v. option_or v y) e ∙ f

-- a fault of the first part is the first
some_of_first : {A : Type 0} (x y : Option A) (a : A) → x ≡ Some a → option_or x y ≡ Some a
some_of_first x y a e = ap (λ v. option_or v y) e

-- one of the second part is, where the first has none
some_of_second : {A : Type 0} (x y : Option A) (a : A) → x ≡ None → y ≡ Some a → option_or x y ≡ Some a
some_of_second x y a e f = ap (λ v. option_or v y) e ∙ f

module _ (c : Candidate) where
  -- one list of tests behind another
  first_fault-append : (xs ys : List Test) → first_fault c (xs ++ ys) ≡ option_or (first_fault c xs) (first_fault c ys)
  unfolding first_fault
  first_fault-append [] ys = refl
  first_fault-append (x ∷ xs) ys =
      ap (option_or (fault_of c x)) (first_fault-append xs ys) ∙ sym (option_or-assoc (fault_of c x) (first_fault c xs) (first_fault c ys))

  -- a list of one test
  first_fault-one : (t : Test) → first_fault c (t ∷ []) ≡ fault_of c t
  unfolding first_fault
  first_fault-one t = at (fault_of c t)
    where
      at : {A : Type 0} (x : Option A) → option_or x None ≡ x
      at (Some a) = refl
      at None = refl

  -- where both lists pass, so do they together
  no_fault-of_both : (xs ys : List Test) → first_fault c xs ≡ None → first_fault c ys ≡ None → first_fault c (xs ++ ys) ≡ None
  no_fault-of_both xs ys e f = first_fault-append xs ys ∙ none_of_both _ _ e f

  -- a fault of the first list is the first
  fault-of_first : (xs ys : List Test) (f : Fault) → first_fault c xs ≡ Some f → first_fault c (xs ++ ys) ≡ Some f
  fault-of_first xs ys f e = first_fault-append xs ys ∙ some_of_first _ _ f e

  -- one of the second list is, where the first passes
  fault-of_second : (xs ys : List Test) (f : Fault) → first_fault c xs ≡ None → first_fault c ys ≡ Some f → first_fault c (xs ++ ys) ≡ Some f
  fault-of_second xs ys f e h = first_fault-append xs ys ∙ some_of_second _ _ f e h

  -- where they pass together, so does each
  both-from_no_fault : (xs ys : List Test) → first_fault c (xs ++ ys) ≡ None → (first_fault c xs ≡ None) × (first_fault c ys ≡ None)
  both-from_no_fault xs ys e = both_none _ _ (sym (first_fault-append xs ys) ∙ e)

  -- a list of tests for each of n numbers: all pass
  groups_pass : (g : ℕ → List Test) (a n : ℕ) → ((k : ℕ) → a ≤ k → k < a + n → first_fault c (g k) ≡ None) → first_fault c (flat_map g (range_with_len a n)) ≡ None
  unfolding first_fault
  groups_pass g a zero h = refl
  groups_pass g a (suc n) h =
      no_fault-of_both (g a) (flat_map g (range_with_len (a + 1) n)) (h a (omega arith) (omega arith)) (groups_pass g (a + 1) n (λ k p q. h k (omega arith) (omega arith)))

  -- or the first that does not has the fault
  groups_fault : (g : ℕ → List Test) (a n i : ℕ) (f : Fault) → a ≤ i → i < a + n → ((k : ℕ) → a ≤ k → k < i → first_fault c (g k) ≡ None) → first_fault c (g i) ≡ Some f → first_fault c (flat_map g (range_with_len a n)) ≡ Some f
  groups_fault g a zero i f p q h e = absurd (omega arith)
  groups_fault g a (suc n) i f p q h e =
      elim (cases_eq i a) [
        | inl same ↦ fault-of_first (g a) (flat_map g (range_with_len (a + 1) n)) f (ap (λ j. first_fault c (g j)) (sym same) ∙ e)
        | inr other ↦ fault-of_second (g a) (flat_map g (range_with_len (a + 1) n)) f (h a (omega arith) (omega arith))
            (groups_fault g (a + 1) n i f (omega arith) (omega arith) (λ k r s. h k (omega arith) s) e)
      ]

  -- where they pass together, so does each of them
  groups-from_pass : (g : ℕ → List Test) (a n : ℕ) → first_fault c (flat_map g (range_with_len a n)) ≡ None → (k : ℕ) → a ≤ k → k < a + n → first_fault c (g k) ≡ None
  groups-from_pass g a zero e k p q = absurd (omega arith)
  groups-from_pass g a (suc n) e k p q =
      let r = both-from_no_fault (g a) (flat_map g (range_with_len (a + 1) n)) e in
      elim (cases_eq k a) [
        | inl same ↦ ap (λ j. first_fault c (g j)) same ∙ r.0
        | inr other ↦ groups-from_pass g (a + 1) n r.1 k (omega arith) (omega arith)
      ]

  -- the same of one test for each number
  each_passes : (h : ℕ → Test) (a n : ℕ) → ((k : ℕ) → a ≤ k → k < a + n → fault_of c (h k) ≡ None) → first_fault c (map h (range_with_len a n)) ≡ None
  each_passes h a n p =
      ap (first_fault c) (sym (flat_map_single h (range_with_len a n))) ∙ groups_pass (λ x. h x ∷ []) a n (λ k r s. first_fault-one (h k) ∙ p k r s)

  -- and of the first that fails
  one_fails : (h : ℕ → Test) (a n i : ℕ) (f : Fault) → a ≤ i → i < a + n → ((k : ℕ) → a ≤ k → k < i → fault_of c (h k) ≡ None) → fault_of c (h i) ≡ Some f → first_fault c (map h (range_with_len a n)) ≡ Some f
  one_fails h a n i f l m p e =
      ap (first_fault c) (sym (flat_map_single h (range_with_len a n))) ∙ groups_fault (λ x. h x ∷ []) a n i f l m (λ k r s. first_fault-one (h k) ∙ p k r s) (first_fault-one (h i) ∙ e)

  -- and of each, where they pass together
  each-from_pass : (h : ℕ → Test) (a n : ℕ) → first_fault c (map h (range_with_len a n)) ≡ None → (k : ℕ) → a ≤ k → k < a + n → fault_of c (h k) ≡ None
  each-from_pass h a n e k p q =
      sym (first_fault-one (h k)) ∙ groups-from_pass (λ x. h x ∷ []) a n (ap (first_fault c) (flat_map_single h (range_with_len a n)) ∙ e) k p q

  -- ---- one test

  -- a selector that is not the power of two
  selector_fails : (i : ℕ) → c.select i ≢ 2 ^ c.at i → fault_of c (selector i) ≡ Some (wrong_selector i (c.select i) (2 ^ c.at i))
  unfolding fault_of
  selector_fails i e = grind (arith, nat_tests)

  -- the fault that it is, with what was got and what was wanted
  pub selector_fault : (i got want : ℕ) → got ≡ c.select i → want ≡ 2 ^ c.at i → got ≢ want → fault_of c (selector i) ≡ Some (wrong_selector i got want)
  selector_fault i got want e f ne = rw (e, f) (selector_fails i (λ x. ne (e ∙ x ∙ sym f)))

  -- a selector that is
  pub selector_passes : (i got want : ℕ) → got ≡ c.select i → want ≡ 2 ^ c.at i → got ≡ want → fault_of c (selector i) ≡ None
  unfolding fault_of
  selector_passes i got want e f same = let r = sym e ∙ same ∙ f in grind (arith, nat_tests)

  -- where the test passes, it is
  pub selector-from_pass : (i : ℕ) → fault_of c (selector i) ≡ None → c.select i ≡ 2 ^ c.at i
  selector-from_pass i e =
      elim (cases_eq (c.select i) (2 ^ c.at i)) [ inl same ↦ same | inr other ↦ (let f = selector_fails i other in absurd (cc)) ]

  -- a position that a lower index has
  pub repetition_fault : (i p : ℕ) → p ≡ c.at i → is_repeated c.at i ≡ true → fault_of c (repetition i) ≡ Some (repeated i p)
  unfolding fault_of
  repetition_fault i p e h = rw (e, h) refl

  -- one that none has
  pub repetition_passes : (i : ℕ) → is_repeated c.at i ≡ false → fault_of c (repetition i) ≡ None
  unfolding fault_of
  repetition_passes i h = rw h refl

  -- where the test passes, none has it
  pub repetition-from_pass : (i : ℕ) → fault_of c (repetition i) ≡ None → (j : ℕ) → j < i → c.at j ≢ c.at i
  repetition-from_pass i e j h x = let f = repetition_fault i (c.at i) refl (is_repeated-lower c.at i j h x) in cc

  -- a mask that is not the wanted one
  mask_fails : (from upto : Option ℕ) → c.mask from upto ≢ wanted_mask c from upto → fault_of c (masked from upto) ≡ Some (wrong_mask from upto (c.mask from upto) (wanted_mask c from upto))
  unfolding fault_of
  mask_fails from upto e = grind (arith, nat_tests)

  -- the fault that it is, with what was got and what was wanted
  pub mask_fault : (from upto : Option ℕ) (got want : ℕ) → got ≡ c.mask from upto → want ≡ wanted_mask c from upto → got ≢ want → fault_of c (masked from upto) ≡ Some (wrong_mask from upto got want)
  mask_fault from upto got want e f ne = rw (e, f) (mask_fails from upto (λ x. ne (e ∙ x ∙ sym f)))

  -- a mask that is
  pub mask_passes : (from upto : Option ℕ) (got want : ℕ) → got ≡ c.mask from upto → want ≡ wanted_mask c from upto → got ≡ want → fault_of c (masked from upto) ≡ None
  unfolding fault_of
  mask_passes from upto got want e f same = let r = sym e ∙ same ∙ f in grind (arith, nat_tests)

  -- where the test passes, it is
  pub mask-from_pass : (from upto : Option ℕ) → fault_of c (masked from upto) ≡ None → c.mask from upto ≡ wanted_mask c from upto
  mask-from_pass from upto e =
      elim (cases_eq (c.mask from upto) (wanted_mask c from upto)) [ inl same ↦ same | inr other ↦ (let f = mask_fails from upto other in absurd (cc)) ]

  -- ---- the tests of the indices

  -- both tests of an index
  index_passes : (i : ℕ) → fault_of c (selector i) ≡ None → fault_of c (repetition i) ≡ None → first_fault c (selector i ∷ repetition i ∷ []) ≡ None
  index_passes i e f = no_fault-of_both (selector i ∷ []) (repetition i ∷ []) (first_fault-one (selector i) ∙ e) (first_fault-one (repetition i) ∙ f)

  -- the indices pass where each does
  pub index_tests_pass : (n : ℕ) → ((k : ℕ) → k < n → (fault_of c (selector k) ≡ None) × (fault_of c (repetition k) ≡ None)) → first_fault c (index_tests n) ≡ None
  unfolding index_tests
  index_tests_pass n h =
      groups_pass (λ i. selector i ∷ repetition i ∷ []) 0 (n - 0) (λ k p q. let r = h k (omega arith) in index_passes k r.0 r.1)

  -- the first index that does not has the fault
  index_tests_fault : (n i : ℕ) (f : Fault) → i < n → ((k : ℕ) → k < i → (fault_of c (selector k) ≡ None) × (fault_of c (repetition k) ≡ None)) → first_fault c (selector i ∷ repetition i ∷ []) ≡ Some f → first_fault c (index_tests n) ≡ Some f
  unfolding index_tests
  index_tests_fault n i f l h e =
      groups_fault (λ i. selector i ∷ repetition i ∷ []) 0 (n - 0) i f (omega arith) (omega arith) (λ k p q. let r = h k q in index_passes k r.0 r.1) e

  -- by its selector
  pub index_tests_selector : (n i : ℕ) (f : Fault) → i < n → ((k : ℕ) → k < i → (fault_of c (selector k) ≡ None) × (fault_of c (repetition k) ≡ None)) → fault_of c (selector i) ≡ Some f → first_fault c (index_tests n) ≡ Some f
  index_tests_selector n i f l h e = index_tests_fault n i f l h (fault-of_first (selector i ∷ []) (repetition i ∷ []) f (first_fault-one (selector i) ∙ e))

  -- or, where that passes, by its repetition
  pub index_tests_repetition : (n i : ℕ) (f : Fault) → i < n → ((k : ℕ) → k < i → (fault_of c (selector k) ≡ None) × (fault_of c (repetition k) ≡ None)) → fault_of c (selector i) ≡ None → fault_of c (repetition i) ≡ Some f → first_fault c (index_tests n) ≡ Some f
  index_tests_repetition n i f l h s e =
      index_tests_fault n i f l h (fault-of_second (selector i ∷ []) (repetition i ∷ []) f (first_fault-one (selector i) ∙ s) (first_fault-one (repetition i) ∙ e))

  -- where the indices pass, so does each
  pub index_tests-from_pass : (n : ℕ) → first_fault c (index_tests n) ≡ None → (k : ℕ) → k < n → (fault_of c (selector k) ≡ None) × (fault_of c (repetition k) ≡ None)
  unfolding index_tests
  index_tests-from_pass n e k h =
      let r = both-from_no_fault (selector k ∷ []) (repetition k ∷ []) (groups-from_pass (λ i. selector i ∷ repetition i ∷ []) 0 (n - 0) e k (omega arith) (omega arith)) in
      (sym (first_fault-one (selector k)) ∙ r.0, sym (first_fault-one (repetition k)) ∙ r.1)

  -- ---- the tests of the masks

  -- the masks from one start pass where each does
  pub start_tests_pass : (width from : ℕ) → ((k : ℕ) → from ≤ k → k ≤ width → fault_of c (masked (Some from) (Some k)) ≡ None) → first_fault c (start_tests width from) ≡ None
  unfolding start_tests
  start_tests_pass width from h = each_passes (λ upto. masked (Some from) (Some upto)) from (width + 1 - from) (λ k p q. h k p (omega arith))

  -- the first end whose mask does not has the fault
  pub start_tests_fault : (width from i : ℕ) (f : Fault) → from ≤ i → i ≤ width → ((k : ℕ) → from ≤ k → k < i → fault_of c (masked (Some from) (Some k)) ≡ None) → fault_of c (masked (Some from) (Some i)) ≡ Some f → first_fault c (start_tests width from) ≡ Some f
  unfolding start_tests
  start_tests_fault width from i f l m h e = one_fails (λ upto. masked (Some from) (Some upto)) from (width + 1 - from) i f l (omega arith) h e

  -- all pairs pass where each start does
  pub pair_tests_pass : (width : ℕ) → ((k : ℕ) → k < width → first_fault c (start_tests width k) ≡ None) → first_fault c (pair_tests width) ≡ None
  unfolding pair_tests
  pair_tests_pass width h = groups_pass (start_tests width) 0 (width - 0) (λ k p q. h k (omega arith))

  -- the first start that does not has the fault
  pub pair_tests_fault : (width i : ℕ) (f : Fault) → i < width → ((k : ℕ) → k < i → first_fault c (start_tests width k) ≡ None) → first_fault c (start_tests width i) ≡ Some f → first_fault c (pair_tests width) ≡ Some f
  unfolding pair_tests
  pair_tests_fault width i f l h e = groups_fault (start_tests width) 0 (width - 0) i f (omega arith) (omega arith) (λ k p q. h k q) e

  -- where all pairs pass, so does each
  pub pair-from_pass : (width : ℕ) → first_fault c (pair_tests width) ≡ None → (from upto : ℕ) → from < width → from ≤ upto → upto ≤ width → fault_of c (masked (Some from) (Some upto)) ≡ None
  unfolding pair_tests start_tests
  pair-from_pass width e from upto l m n =
      each-from_pass (λ u. masked (Some from) (Some u)) from (width + 1 - from) (groups-from_pass (start_tests width) 0 (width - 0) e from (omega arith) (omega arith)) upto m (omega arith)

  -- those with an absent bound, in their three groups
  absent_groups : ℕ → Option Fault
  absent_groups width =
      option_or (fault_of c (masked None None)) (option_or
      (first_fault c (map (λ from. masked (Some from) None) (range_with_len 0 (width - 0))))
      (first_fault c (map (λ upto. masked None (Some upto)) (range_with_len 0 (width + 1 - 0)))))

  -- their first fault is that of the three groups in turn
  absent_tests-groups : (width : ℕ) → first_fault c (absent_tests width) ≡ absent_groups width
  unfolding absent_tests absent_groups first_fault
  absent_tests-groups width =
      ap (option_or (fault_of c (masked None None)))
      (first_fault-append (map (λ from. masked (Some from) None) (range_with_len 0 (width - 0))) (map (λ upto. masked None (Some upto)) (range_with_len 0 (width + 1 - 0))))

  -- all three pass
  pub absent_tests_pass : (width : ℕ) → fault_of c (masked None None) ≡ None → ((k : ℕ) → k < width → fault_of c (masked (Some k) None) ≡ None) → ((k : ℕ) → k ≤ width → fault_of c (masked None (Some k)) ≡ None) → first_fault c (absent_tests width) ≡ None
  unfolding absent_groups
  absent_tests_pass width e f h =
      absent_tests-groups width
      ∙ none_of_both _ _ e (none_of_both _ _
      (each_passes (λ from. masked (Some from) None) 0 (width - 0) (λ k p q. f k (omega arith)))
      (each_passes (λ upto. masked None (Some upto)) 0 (width + 1 - 0) (λ k p q. h k (omega arith))))

  -- the mask of two absent bounds fails
  pub absent_tests_whole : (width : ℕ) (f : Fault) → fault_of c (masked None None) ≡ Some f → first_fault c (absent_tests width) ≡ Some f
  unfolding absent_groups
  absent_tests_whole width f e = absent_tests-groups width ∙ some_of_first _ _ f e

  -- that passes, and a start fails
  pub absent_tests_from : (width i : ℕ) (f : Fault) → i < width → fault_of c (masked None None) ≡ None → ((k : ℕ) → k < i → fault_of c (masked (Some k) None) ≡ None) → fault_of c (masked (Some i) None) ≡ Some f → first_fault c (absent_tests width) ≡ Some f
  unfolding absent_groups
  absent_tests_from width i f l e h x =
      absent_tests-groups width
      ∙ some_of_second _ _ f e (some_of_first _ _ f (one_fails (λ from. masked (Some from) None) 0 (width - 0) i f (omega arith) (omega arith) (λ k p q. h k q) x))

  -- both pass, and an end fails
  pub absent_tests_upto : (width i : ℕ) (f : Fault) → i ≤ width → fault_of c (masked None None) ≡ None → ((k : ℕ) → k < width → fault_of c (masked (Some k) None) ≡ None) → ((k : ℕ) → k < i → fault_of c (masked None (Some k)) ≡ None) → fault_of c (masked None (Some i)) ≡ Some f → first_fault c (absent_tests width) ≡ Some f
  unfolding absent_groups
  absent_tests_upto width i f l e h u x =
      absent_tests-groups width
      ∙ some_of_second _ _ f e (some_of_second _ _ f
      (each_passes (λ from. masked (Some from) None) 0 (width - 0) (λ k p q. h k (omega arith)))
      (one_fails (λ upto. masked None (Some upto)) 0 (width + 1 - 0) i f (omega arith) (omega arith) (λ k p q. u k q) x))

  -- where they pass together, so does each mask
  pub absent-from_pass : (width : ℕ) → first_fault c (absent_tests width) ≡ None → (fault_of c (masked None None) ≡ None) × ((k : ℕ) → k < width → fault_of c (masked (Some k) None) ≡ None) × ((k : ℕ) → k ≤ width → fault_of c (masked None (Some k)) ≡ None)
  unfolding absent_groups
  absent-from_pass width e =
      let front = both_none (fault_of c (masked None None)) _ (sym (absent_tests-groups width) ∙ e) in
      let rest = both_none (first_fault c (map (λ from. masked (Some from) None) (range_with_len 0 (width - 0)))) _ front.1 in (
        front.0,
        λ k h. each-from_pass (λ from. masked (Some from) None) 0 (width - 0) rest.0 k (omega arith) (omega arith),
        λ k h. each-from_pass (λ upto. masked None (Some upto)) 0 (width + 1 - 0) rest.1 k (omega arith) (omega arith),
      )

  -- ---- the whole scan

  -- the first fault is that of the three parts in turn
  first_fault-tests : (width : ℕ) → first_fault c (tests width) ≡ option_or (first_fault c (index_tests width)) (option_or (first_fault c (pair_tests width)) (first_fault c (absent_tests width)))
  unfolding tests
  first_fault-tests width =
      first_fault-append (index_tests width ++ pair_tests width) (absent_tests width)
      ∙ ap (λ v. option_or v (first_fault c (absent_tests width))) (first_fault-append (index_tests width) (pair_tests width))
      ∙ option_or-assoc (first_fault c (index_tests width)) (first_fault c (pair_tests width)) (first_fault c (absent_tests width))

  -- an index has it
  pub tests-index_fault : (width : ℕ) (f : Fault) → first_fault c (index_tests width) ≡ Some f → first_fault c (tests width) ≡ Some f
  tests-index_fault width f e = first_fault-tests width ∙ some_of_first _ _ f e

  -- the indices pass, and a pair has it
  pub tests-pair_fault : (width : ℕ) (f : Fault) → first_fault c (index_tests width) ≡ None → first_fault c (pair_tests width) ≡ Some f → first_fault c (tests width) ≡ Some f
  tests-pair_fault width f e h = first_fault-tests width ∙ some_of_second _ _ f e (some_of_first _ _ f h)

  -- both pass, so it is that of the masks with an absent bound, if any
  pub tests-absent_fault : (width : ℕ) (o : Option Fault) → first_fault c (index_tests width) ≡ None → first_fault c (pair_tests width) ≡ None → first_fault c (absent_tests width) ≡ o → first_fault c (tests width) ≡ o
  tests-absent_fault width o e f h =
      first_fault-tests width
      ∙ ap (λ v. option_or v (option_or (first_fault c (pair_tests width)) (first_fault c (absent_tests width)))) e
      ∙ ap (λ v. option_or v (first_fault c (absent_tests width))) f
      ∙ h

  -- where the scan passes, so does each part
  pub parts-from_pass : (width : ℕ) → first_fault c (tests width) ≡ None → (first_fault c (index_tests width) ≡ None) × (first_fault c (pair_tests width) ≡ None) × (first_fault c (absent_tests width) ≡ None)
  parts-from_pass width e =
      let r = both_none (first_fault c (index_tests width)) _ (sym (first_fault-tests width) ∙ e) in
      let q = both_none (first_fault c (pair_tests width)) (first_fault c (absent_tests width)) r.1 in
      (r.0, q.0, q.1)

-- ---- two values of a register, compared by their numbers

-- the comparison says that they differ
pub differ-from_test : (b : Bool) (x y m n : ℕ) → b ≡ (x == y) → x ≡ m → y ≡ n → true ≡ not b → m ≢ n
differ-from_test b x y m n e f g h = grind (arith, nat_tests)

-- or that they are the same
pub same-from_test : (b : Bool) (x y m n : ℕ) → b ≡ (x == y) → x ≡ m → y ≡ n → false ≡ not b → m ≡ n
same-from_test b x y m n e f g h =
    elim (cases_eq m n) [ inl same ↦ same | inr other ↦ (let t : (x == y) ≡ false = grind (arith, nat_tests) in absurd (cc)) ]
