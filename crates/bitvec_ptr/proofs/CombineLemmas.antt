-- Elements of a list combined with those of a list, one by one.
use Rattle.std.proofs.Common.{◌≡◌, ◌⊎◌, ⊎_elim, ℕ, zero, suc, ◌+◌, ◌*◌, ◌-◌, ◌^◌, ◌<◌, ◌≤◌, Bool, true, false, not, ◌&&◌, ◌||◌, List, [], ◌∷◌, length}
use Rattle.std.proofs.Common.{map, get_or, drop, refl, sym, ◌∙◌, ap, arith, length-drop, get_or-drop}
use Rattle.std.proofs.Math.Bool.{and-true}
use Rattle.bitvec_mem.specs.Digit.{digit, exclusive_or}
use Rattle.bitvec_mem.proofs.DigitLemmas.{digit-zero, digit_all}
use Rattle.bitvec_ptr.specs.Memory.{memory_bits, zip_with, list_with, list_with_copy}
use Rattle.bitvec_ptr.specs.Place.{words_met}
use Rattle.bitvec_ptr.proofs.CopyLemmas.{copied_none, length-copied, get_or-copied_below, get_or-copied_inside, get_or-copied_above}
use Rattle.bitvec_ptr.proofs.CopyLemmas.{copied_from_points, met_covers, length-bits}

-- a bit with that of a word whose digits are all one, or all zero
pub with_all : (bits n p : ℕ) (b : Bool) → n ≡ 2 ^ bits - 1 → p < bits → (b && digit n p) ≡ b
with_all bits n p b e h = ap (λ m. b && digit m p) e ∙ ap (λ d. b && d) (digit_all bits p h) ∙ and-true b

digit-of_zero : (n p : ℕ) → n ≡ 0 → digit n p ≡ false
digit-of_zero n p e = ap (λ m. digit m p) e ∙ digit-zero p

or_false : (b : Bool) → (b || false) ≡ b
or_false true = refl
or_false false = refl

xor_false : (b : Bool) → exclusive_or b false ≡ b
xor_false true = refl
xor_false false = refl

without_false : (b : Bool) → (b && not false) ≡ b
without_false true = refl
without_false false = refl

pub or_none : (n p : ℕ) (b : Bool) → n ≡ 0 → (b || digit n p) ≡ b
or_none n p b e = ap (λ d. b || d) (digit-of_zero n p e) ∙ or_false b

pub xor_none : (n p : ℕ) (b : Bool) → n ≡ 0 → exclusive_or b (digit n p) ≡ b
xor_none n p b e = ap (exclusive_or b) (digit-of_zero n p e) ∙ xor_false b

pub without_none : (n p : ℕ) (b : Bool) → n ≡ 0 → (b && not (digit n p)) ≡ b
without_none n p b e = ap (λ d. b && not d) (digit-of_zero n p e) ∙ without_false b

module _ {A B C : Type 0} (f : A → B → C) where
  pub long-zip_with : (xs : List A) (ys : List B) (n : ℕ) → n ≤ length xs → n ≤ length ys → n ≤ length (zip_with f xs ys)
  unfolding zip_with
  long-zip_with [] ys n a b = a
  long-zip_with (x ∷ xs) [] n a b = b
  long-zip_with (x ∷ xs) (y ∷ ys) zero a b = omega arith
  long-zip_with (x ∷ xs) (y ∷ ys) (suc n) a b = let rest = long-zip_with xs ys n (omega arith) (omega arith) in omega (arith, rest)

  pub get_or-zip_with : (xs : List A) (ys : List B) (i : ℕ) (c : A) (d : B) (e : C) → i < length xs → i < length ys
      → get_or (zip_with f xs ys) i e ≡ f (get_or xs i c) (get_or ys i d)
  unfolding zip_with
  get_or-zip_with [] ys i c d e a b = absurd (omega arith)
  get_or-zip_with (x ∷ xs) [] i c d e a b = absurd (omega arith)
  get_or-zip_with (x ∷ xs) (y ∷ ys) zero c d e a b = refl
  get_or-zip_with (x ∷ xs) (y ∷ ys) (suc i) c d e a b = get_or-zip_with xs ys i c d e (omega arith) (omega arith)

-- none changed
pub combined_none : {A : Type 0} (f : A → A → A) (source : List A) (s : ℕ) (target : List A) (t : ℕ) → target ≡ list_with f source s target t 0
combined_none f source s target t = copied_none (zip_with f (drop t target) (drop s source)) 0 target t

module _ {A : Type 0} (f : A → A → A) (source : List A) (s : ℕ) (target : List A) (t n : ℕ)
    (h : t + n ≤ length target) (k : s + n ≤ length source) where
  long : n ≤ length (zip_with f (drop t target) (drop s source))
  long = long-zip_with f (drop t target) (drop s source) n (omega (arith, length-drop t target)) (omega (arith, length-drop s source))

  pub length-combined : length (list_with f source s target t n) ≡ length target
  length-combined = length-copied (zip_with f (drop t target) (drop s source)) 0 target t n h (omega (arith, long))

  pub get_or-combined_below : (q : ℕ) (d : A) → q < t → get_or (list_with f source s target t n) q d ≡ get_or target q d
  get_or-combined_below q d r = get_or-copied_below (zip_with f (drop t target) (drop s source)) 0 target t n h (omega (arith, long)) q d r

  pub get_or-combined_above : (q : ℕ) (d : A) → t + n ≤ q → get_or (list_with f source s target t n) q d ≡ get_or target q d
  get_or-combined_above q d r = get_or-copied_above (zip_with f (drop t target) (drop s source)) 0 target t n h (omega (arith, long)) q d r

  paired : (j : ℕ) (d : A) → j < n
      → get_or (zip_with f (drop t target) (drop s source)) (0 + j) d ≡ f (get_or target (t + j) d) (get_or source (s + j) d)
  paired j d r =
      let same : 0 + j ≡ j = omega arith in
      ap (λ v. get_or (zip_with f (drop t target) (drop s source)) v d) same
      ∙ get_or-zip_with f (drop t target) (drop s source) j d d d (omega (arith, length-drop t target)) (omega (arith, length-drop s source))
      ∙ ap (λ v. f v (get_or (drop s source) j d)) (get_or-drop t target j d)
      ∙ ap (λ v. f (get_or target (t + j) d) v) (get_or-drop s source j d)

  pub get_or-combined_inside : (q j : ℕ) (d : A) → q ≡ t + j → j < n
      → get_or (list_with f source s target t n) q d ≡ f (get_or target q d) (get_or source (s + j) d)
  get_or-combined_inside q j d e r =
      get_or-copied_inside (zip_with f (drop t target) (drop s source)) 0 target t n h (omega (arith, long)) q j d e r
      ∙ paired j d r ∙ ap (λ v. f (get_or target v d) (get_or source (s + j) d)) (sym e)

  -- a list with those elements is the combination
  pub combined_from_points : (now : List A) → length now ≡ length target
      → ((j : ℕ) (d : A) → j < n → get_or now (t + j) d ≡ f (get_or target (t + j) d) (get_or source (s + j) d))
      → ((q : ℕ) (d : A) → q < length target → (q < t) ⊎ (t + n ≤ q) → get_or now q d ≡ get_or target q d)
      → now ≡ list_with f source s target t n
  combined_from_points now e inside outside =
      copied_from_points (zip_with f (drop t target) (drop s source)) 0 target t n h (omega (arith, long)) now e
      (λ j d r. inside j d r ∙ sym (paired j d r)) outside

taken_is_copied : {A : Type 0} (source : List A) (s : ℕ) (target : List A) (t n : ℕ) → t + n ≤ length target → s + n ≤ length source
    → list_with (λ was is. is) source s target t n ≡ list_with_copy source s target t n
taken_is_copied source s target t n h k =
    copied_from_points source s target t n h k (list_with (λ was is. is) source s target t n)
    (length-combined (λ was is. is) source s target t n h k)
    (λ j d r. get_or-combined_inside (λ was is. is) source s target t n h k (t + j) j d refl r)
    (λ q d r u.
    ⊎_elim
    (λ v. get_or-combined_below (λ was is. is) source s target t n h k q d v)
    (λ v. get_or-combined_above (λ was is. is) source s target t n h k q d v)
    u)

-- where the source's elements are taken as they are, it is a copy
pub combined_is_copied : {A : Type 0} (source : List A) (s : ℕ) (target : List A) (t n : ℕ) → (0 < n → t + n ≤ length target)
    → (0 < n → s + n ≤ length source)
    → list_with (λ was is. is) source s target t n ≡ list_with_copy source s target t n
combined_is_copied source s target t zero h k = sym (combined_none (λ was is. is) source s target t) ∙ copied_none source s target t
combined_is_copied source s target t (suc n) h k = taken_is_copied source s target t (suc n) (h (omega arith)) (k (omega arith))

-- bits whose words are met are among those of a memory
pub met_fits : {W : Type 0} (width : ℕ) (at : ℕ → ℕ) (number : W → ℕ) (words : List W) (word bit count : ℕ) → 8 ≤ width
    → word + words_met width bit count ≤ length words
    → 0 < count → word * width + bit + count ≤ length (memory_bits width at (map number words))
met_fits width at number words word bit count some met more =
    let room = met_covers width word bit count (length words) (omega arith) more met in
    omega (arith, room, length-bits width at number words)
