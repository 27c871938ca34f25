-- How many numbers pass a test, and how many ones a word has by the indices of an order.
use Rattle.std.proofs.Common.{◌≡◌, ◌≢◌, ℕ, zero, suc, ◌+◌, ◌-◌, ◌*◌, ◌^◌, ◌<◌, ◌≤◌, Bool, true, false, not, refl, sym, ap, ◌∙◌, inl, inr, arith}
use Rattle.std.proofs.lemmas.Bool.{cases_eq, cases_Bool, false_from_ne_true}
use Rattle.bitvec_mem.specs.Digit.{digit, count_below}
use Rattle.bitvec_mem.proofs.DigitLemmas.{count_below-same}
use Rattle.bitvec_order.specs.Order.{IsOneToOne, number_of}
use Rattle.bitvec_order.specs.OrderLemmas.{chosen-from_digit, digit-from_chosen}
use Rattle.bitvec_order.proofs.IndexLemmas.{number_of-from_digits}

-- where none passes, none is counted
pub count_none : (f : ℕ → Bool) (n : ℕ) → ((p : ℕ) → p < n → f p ≡ false) → count_below f n ≡ 0
unfolding count_below
count_none f zero h = refl
count_none f (suc n) h = let rest = count_none f n (λ p lt. h p (omega arith)) in rw (h n (omega arith)) (omega (arith, rest))

one_more : (f h : ℕ → Bool) (q n : ℕ) → q < n → h q ≡ false → f q ≡ true → ((p : ℕ) → p < n → p ≢ q → f p ≡ h p) → count_below f n ≡ 1 + count_below h n
unfolding count_below
one_more f h q zero lt is_off is_on same = absurd (omega arith)
one_more f h q (suc n) lt is_off is_on same =
    elim (cases_eq q n) [
      | inl e ↦ (
          let top_f : f n ≡ true = ap f (sym e) ∙ is_on in
          let top_h : h n ≡ false = ap h (sym e) ∙ is_off in
          let rest = count_below-same f h n (λ p less. same p (omega arith) (λ d. absurd (omega (arith, d, e)))) in
          rw (top_f, top_h) (omega (arith, rest)))
      | inr differ ↦ (
          let top : f n ≡ h n = same n (omega arith) (λ d. differ (sym d)) in
          let rest = one_more f h q n (omega arith) is_off is_on (λ p less d. same p (omega arith) d) in
          rw top (omega (arith, rest)))
    ]

-- the first a of them, and the b behind
pub count_split : (f : ℕ → Bool) (a b : ℕ) → count_below f (a + b) ≡ count_below f a + count_below (λ i. f (a + i)) b
unfolding count_below
count_split f a zero = ap (count_below f) (let e : a + 0 ≡ a = omega arith in e) ∙ (let z : count_below f a ≡ count_below f a + 0 = omega arith in z)
count_split f a (suc b) = let e : a + suc b ≡ suc (a + b) = omega arith in let rest = count_split f a b in rw e (omega (arith, rest))

pub count_most : (f : ℕ → Bool) (n : ℕ) → count_below f n ≤ n
unfolding count_below
count_most f zero = omega arith
count_most f (suc n) =
    let rest = count_most f n in
    elim (cases_Bool (f n)) [ inl is_on ↦ rw is_on (omega (arith, rest)) | inr is_off ↦ rw is_off (omega (arith, rest)) ]

pub count_start : (f : ℕ → Bool) (bits : ℕ) → 0 ≡ count_below f (0 * bits)
unfolding count_below
count_start f bits = sym (ap (count_below f) (let e : 0 * bits ≡ 0 = omega arith in e))

-- a test or its opposite is passed by each number
pub count_both : (f : ℕ → Bool) (n : ℕ) → count_below f n + count_below (λ i. not (f i)) n ≡ n
unfolding count_below
count_both f zero = refl
count_both f (suc n) =
    let rest = count_both f n in
    elim (cases_Bool (f n)) [ inl is_on ↦ rw is_on (omega (arith, rest)) | inr is_off ↦ rw is_off (omega (arith, rest)) ]

-- where none before `bit` passes, nor any from bit + count on, those between are counted
pub count_between : (f : ℕ → Bool) (bits bit count : ℕ) → bit + count ≤ bits
    → ((p : ℕ) → p < bit → f p ≡ false) → ((p : ℕ) → p < bits → bit + count ≤ p → f p ≡ false)
    → count_below f bits ≡ count_below (λ i. f (bit + i)) count
count_between f bits bit count room before behind =
    let rest : ℕ = bits - (bit + count) in
    let all : bits ≡ bit + (count + (bits - (bit + count))) = omega arith in
    let low = count_none f bit before in
    let high = count_none (λ i. f (bit + (count + i))) rest (λ i h. behind (bit + (count + i)) (omega arith) (omega arith)) in
    ap (count_below f) all
    ∙ omega (arith, count_split f bit (count + rest), low, count_split (λ i. f (bit + i)) count rest, high)

-- the digits of a number made from chosen indices, with one more index that is not chosen, or is that of another place
same_digit : (at : ℕ → ℕ) (test : ℕ → Bool) (n p : ℕ) → (test n ≡ true → p ≢ at n) → digit (number_of at test (suc n)) p ≡ digit (number_of at test n) p
same_digit at test n p other =
    elim (cases_Bool (digit (number_of at test n) p)) [
      | inl one ↦ (let r = chosen-from_digit at test n p one in digit-from_chosen at test (suc n) p (r.0, (let b = r.1 in omega arith), r.2, r.3) ∙ sym one)
      | inr none ↦ (
          false_from_ne_true (digit (number_of at test (suc n)) p) (λ one.
          let r = chosen-from_digit at test (suc n) p one in
          elim (cases_eq r.0 n) [
            | inl same ↦ other (ap test (sym same) ∙ r.2) (sym r.3 ∙ ap at same)
            | inr differ ↦ (let back = digit-from_chosen at test n p (r.0, (let b = r.1 in omega arith), r.2, r.3) in cc)
          ])
          ∙ sym none)
    ]

-- the number of ones of a number made from the chosen indices below n is the number of these indices
pub count_chosen : (width : ℕ) (at : ℕ → ℕ) (test : ℕ → Bool) → IsOneToOne width at → (n : ℕ) → n ≤ width → count_below (digit (number_of at test n)) width ≡ count_below test n
unfolding count_below
count_chosen width at test law zero h =
    count_none (digit (number_of at test 0)) width (λ p less. false_from_ne_true (digit (number_of at test 0) p) (λ one. let r = chosen-from_digit at test 0 p one in let b = r.1 in absurd (omega arith)))
count_chosen width at test law (suc n) h =
    let rest = count_chosen width at test law n (omega arith) in
    elim (cases_Bool (test n)) [
      | inl is_on ↦ rw is_on (
          one_more (digit (number_of at test (suc n))) (digit (number_of at test n)) (at n) width (law.below n (omega arith))
          (false_from_ne_true (digit (number_of at test n) (at n)) (λ one. let r = chosen-from_digit at test n (at n) one in let b = r.1 in let e = law.apart r.0 n (omega arith) (omega arith) r.3 in absurd (omega arith)))
          (digit-from_chosen at test (suc n) (at n) (n, omega arith, is_on, refl))
          (λ p less differ. same_digit at test n p (λ _. differ))
          ∙ ap (λ x. 1 + x) rest)
      | inr is_off ↦ (
          let same = count_below-same (digit (number_of at test (suc n))) (digit (number_of at test n)) width (λ p less. same_digit at test n p (λ is_on. let f = is_on in cc)) in
          rw is_off (omega (arith, same, rest)))
    ]

-- the number of a word's ones is the same by its positions and by the indices of an order
pub count_by_index : (width : ℕ) (at : ℕ → ℕ) (w : ℕ) → IsOneToOne width at → w < 2 ^ width
    → count_below (digit w) width ≡ count_below (λ i. digit w (at i)) width
count_by_index width at w law below =
    let test : ℕ → Bool = λ i. digit w (at i) in
    ap (λ n. count_below (digit n) width) (number_of-from_digits width at test w law below (λ i h. refl))
    ∙ count_chosen width at test law width (omega arith)
