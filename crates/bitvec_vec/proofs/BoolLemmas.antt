-- Words that are made of truth values, and put behind the bits of others.
use Rattle.std.proofs.Common.{◌≡◌, ℕ, suc, ◌+◌, ◌-◌, ◌*◌, ◌/◌, ◌%◌, ◌<◌, ◌≤◌, ◌^◌, Bool, true, false, ◌||◌, List, [], ◌∷◌, ◌++◌, length, take, drop, Result, if◌then◌else◌, bit_or, refl, sym, ap, ◌∙◌, subst, inl, inr, arith, length-append, append_assoc}
use Rattle.std.specs.Prelude.{slice_index, min, is_ok, IsOk}
use Rattle.std.proofs.Math.Nat.{div-eq_of_lt, mod-eq_of_lt}
use Rattle.std.proofs.Math.Seq.{take-add}
use Rattle.std.proofs.lemmas.Bool.{cases_lt}
use Rattle.std.proofs.lemmas.List.{get_or_append_left, get_or-append_right, get_or_push}
use Rattle.std.proofs.lemmas.Nat.{or_lt, pow_pos}
use Rattle.bitvec.specs.Digit.{digit}
use Rattle.bitvec.specs.Memory.{bit_of, tabulate}
use Rattle.bitvec.specs.Order.{IsOneToOne, number_of}
use Rattle.bitvec.specs.OrderLemmas.{number_of_below}
use Rattle.bitvec.specs.SameDigits.{same_from_digits}
use Rattle.bitvec.specs.Span.{element}
use Rattle.bitvec.proofs.DigitLemmas.{digit-or, digit-zero, pow_from_digits}
use Rattle.bitvec.proofs.IndexLemmas.{digit-number_of_at}
use Rattle.bitvec.proofs.MemoryLemmas.{tabulate_same, length-tabulate, get_or-tabulate, tabulate-from_elements, bit_of-place}
use Rattle.bitvec_vec.specs.Front.{front_bits}
use Rattle.bitvec_vec.proofs.FrontLemmas.{front-append, rows}

-- one or zero, moved up by n
pub moved_choice : (width n : ℕ) (b : Bool) (one r : ℕ) → n < width → one ≡ (if b then 1 else 0) → r < 2 ^ width → ((p : ℕ) → p < n → digit r p ≡ false) → ((p : ℕ) → n + p < width → digit r (n + p) ≡ digit one p)
    → r ≡ (if b then 2 ^ n else 0)
moved_choice width n true one r within is small low moved = pow_from_digits width n r small within low (λ p h. moved p h ∙ ap (λ x. digit x p) is)
moved_choice width n false one r within is small low moved =
    same_from_digits width r 0 small (pow_pos width) (λ p h.
    elim (cases_lt p n) [
      | inl below ↦ (low p below ∙ sym (digit-zero p))
      | inr past ↦ (
          let place : n + (p - n) ≡ p = omega (arith, past) in
          ap (digit r) (sym place) ∙ moved (p - n) (omega (arith, past, h)) ∙ ap (λ x. digit x (p - n)) is ∙ digit-zero (p - n) ∙ sym (digit-zero p))
    ])

-- the number of no index is zero
pub number_of-start : (at : ℕ → ℕ) (test : ℕ → Bool) → number_of at test 0 ≡ 0
unfolding number_of
number_of-start at test = refl

number_of-next : (at : ℕ → ℕ) (test : ℕ → Bool) (i : ℕ) → number_of at test (i + 1) ≡ bit_or (number_of at test i) (if test i then 2 ^ at i else 0)
unfolding number_of
number_of-next at test i =
    let next : i + 1 ≡ suc i = omega arith in
    ap (number_of at test) next

-- the truth value of the next index is put in
pub word_next : (width : ℕ) (at : ℕ → ℕ) (test : ℕ → Bool) (i word moved new : ℕ) → IsOneToOne width at → i < width → word ≡ number_of at test i → moved ≡ (if test i then 2 ^ at i else 0) → moved < 2 ^ width
    → new < 2 ^ width → ((p : ℕ) → p < width → digit new p ≡ (digit word p || digit moved p)) → new ≡ number_of at test (i + 1)
word_next width at test i word moved new law within is chosen small_moved small digits =
    let m : ℕ = number_of at test i in
    let s : ℕ = if test i then 2 ^ at i else 0 in
    let small_m : m < 2 ^ width = number_of_below width at test i (λ j h passes. law.below j (omega (arith, h, within))) in
    let small_s : s < 2 ^ width = subst (λ n. n < 2 ^ width) chosen small_moved in
    same_from_digits width new (bit_or m s) small (or_lt width m s small_m small_s)
    (λ p h. digits p h ∙ ap (λ n. digit n p || digit moved p) is ∙ ap (λ n. digit m p || digit n p) chosen ∙ sym (digit-or m s p))
    ∙ sym (number_of-next at test i)

-- the bits of a word that is made of as many truth values are these
pub word-list : (width : ℕ) (at : ℕ → ℕ) (bs : List Bool) (w : ℕ) → IsOneToOne width at → length bs ≡ width → w ≡ number_of at (element bs) width → tabulate width (λ i. digit w (at i)) ≡ bs
word-list width at bs w law long is =
    sym (tabulate-from_elements bs width (λ i. digit w (at i)) false long (λ j h. sym (ap (λ n. digit n (at j)) is ∙ digit-number_of_at width at (element bs) j law h)))

tabulate-append : (n m : ℕ) (f : ℕ → Bool) → tabulate (n + m) f ≡ tabulate n f ++ tabulate m (λ i. f (n + i))
tabulate-append n m f =
    let back : List Bool = tabulate m (λ i. f (n + i)) in
    let long : length (tabulate n f ++ back) ≡ n + m = omega (arith, length-append (tabulate n f) back, length-tabulate n f, length-tabulate m (λ i. f (n + i))) in
    sym (tabulate-from_elements (tabulate n f ++ back) (n + m) f false long (λ j h.
    elim (cases_lt j n) [
      | inl less ↦ (get_or_append_left (tabulate n f) back false j (omega (arith, less, length-tabulate n f)) ∙ get_or-tabulate n f j false less)
      | inr past ↦ (
          let place : n + (j - n) ≡ j = omega (arith, past) in
          get_or-append_right (tabulate n f) back n j false (length-tabulate n f) past ∙ get_or-tabulate m (λ i. f (n + i)) (j - n) false (omega (arith, past, h)) ∙ ap f place)
    ]))

-- a word is put behind those that bits fill
pub front-word : (bits : ℕ) (at : ℕ → ℕ) (len : ℕ) (words : List ℕ) (word : ℕ) → 0 < bits → length words * bits ≡ len
    → front_bits bits at (len + bits) (words ++ word ∷ []) ≡ front_bits bits at len words ++ tabulate bits (λ i. digit word (at i))
front-word bits at len words word some full =
    let more : List ℕ = words ++ word ∷ [] in
    let f : ℕ → Bool = λ j. bit_of bits at more (0 * bits + 0 + j) in
    let last : slice_index more (length words) ≡ word = get_or_push words word 0 (length words) refl in
    tabulate-append len bits f
    ∙ ap (λ us. us ++ tabulate bits (λ i. f (len + i))) (front-append bits at len words (word ∷ []) some (omega (arith, full)))
    ∙ ap (λ us. front_bits bits at len words ++ us) (tabulate_same bits (λ i. f (len + i)) (λ i. digit word (at i)) false (λ i h.
    let place : 0 * bits + 0 + (len + i) ≡ length words * bits + i = omega (arith, full) in
    let q : i / bits ≡ 0 = div-eq_of_lt h in
    let r : i % bits ≡ i = mod-eq_of_lt h in
    let here : length words + i / bits ≡ length words = omega (arith, q) in
    ap (bit_of bits at more) place ∙ bit_of-place bits at more (length words) i some
    ∙ ap (λ n. digit (slice_index more n) (at (i % bits))) here ∙ ap (λ w. digit w (at (i % bits))) last ∙ ap (λ p. digit word (at p)) r))

-- a call that did not refuse
pub done : {A E X : Type 0} (r : Result A E) → IsOk r → (x y : X) → (if is_ok r then x else y) ≡ x
done r ok x y = ap (λ b. if b then x else y) ok

-- room for the bits of a word behind those of full words is room for a word
pub word-fits : (bits n len capacity most : ℕ) → 0 < bits → n * bits ≡ len → len + bits ≤ min (capacity * bits) most → n < capacity
word-fits bits n len capacity most some full room =
    elim (cases_lt n capacity) [
      | inl less ↦ less
      | inr past ↦ absurd (let row = rows bits capacity n past in omega (arith, full, room, row, some))
    ]

-- the first of what is left is put behind
pub put-next : (xs bs now : List Bool) (n k : ℕ) → now ≡ (xs ++ take n bs) ++ take k (drop n bs) → now ≡ xs ++ take (n + k) bs
put-next xs bs now n k is = is ∙ append_assoc xs (take n bs) (take k (drop n bs)) ∙ ap (λ us. xs ++ us) (sym (take-add n k bs))
