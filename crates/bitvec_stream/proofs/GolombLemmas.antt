-- Exp-Golomb codes: how long each is, and that no two begin one list.
use Rattle.std.proofs.Common.{◌≡◌, ℕ, zero, suc, ◌+◌, ◌-◌, ◌*◌, ◌/◌, ◌%◌, ◌^◌, ◌<◌, ◌≤◌, ◌==◌, Bool, true, false, List, [], ◌∷◌, ◌++◌, length, get_or, take, drop, replicate, refl, sym, ap, subst, ◌∙◌, inl, inr, arith, append_assoc, length-append, length-drop}
use Rattle.std.proofs.lemmas.Bool.{cases_lt, cases_order}
use Rattle.std.proofs.lemmas.Int.Digits.{length-digits_of_step}
use Rattle.std.proofs.lemmas.List.{length-replicate, length-take-le, get_or-take, get_or-drop, get_or_append_left, get_or-replicate, drop_at, take-append-drop, drop-take}
use Rattle.std.proofs.lemmas.Nat.{mod-mul-add, div-mul-add, pow_pos}
use Rattle.std.proofs.Math.Nat.{two-pow-succ}
use Rattle.std.proofs.Math.Seq.{take-add}
use Rattle.bitvec.specs.Digit.{digit}
use Rattle.bitvec.specs.Span.{element}
use Rattle.bitvec.specs.Truths.{AllAre}
use Rattle.bitvec.proofs.DigitLemmas.{digit-mod, digit_above, digit-zero}
use Rattle.bitvec.proofs.MemoryLemmas.{tabulate-from_elements, get_or-tabulate}
use Rattle.bitvec_stream.specs.Numbers.{number_be, digits_be}
use Rattle.bitvec_stream.specs.Golomb.{digit_count, golomb, StartsWith, IsCode}
use Rattle.bitvec_slice.proofs.DigitListLemmas.{length-digits_be, digit-number_be, number_be-below, number_be-back, digits_be-number}

true_is_not_false : true ≡ false → ⊥
true_is_not_false e = cc

same_elements : (xs ys : List Bool) → length xs ≡ length ys → ((j : ℕ) → j < length ys → element xs j ≡ element ys j) → xs ≡ ys
same_elements xs ys many same =
    tabulate-from_elements xs (length ys) (element ys) false many same ∙ sym (tabulate-from_elements ys (length ys) (element ys) false refl (λ j h i. element ys j))

-- ---- how many digits a number has

-- a number from 2 ^ k on and below 2 ^ (k + 1) has k + 1 digits
pub count_between : (k n : ℕ) → 2 ^ k ≤ n → n < 2 ^ (k + 1) → digit_count n ≡ k + 1
unfolding digit_count
count_between zero n from upto =
    let one : n ≡ 1 = omega (arith, from, upto) in
    ap digit_count one
count_between (suc k) n from upto =
    let twice : 2 ^ suc k ≡ 2 ^ k + 2 ^ k = two-pow-succ k in
    let next : 2 ^ (suc k + 1) ≡ 2 ^ suc k + 2 ^ suc k = ap (λ m. 2 ^ m) (let e : suc k + 1 ≡ suc (suc k) = omega arith in e) ∙ two-pow-succ (suc k) in
    let same : 2 ^ (k + 1) ≡ 2 ^ suc k = ap (λ m. 2 ^ m) (let e : k + 1 ≡ suc k = omega arith in e) in
    let some = pow_pos k in
    let below : n / 2 < 2 ^ (k + 1) = omega (arith, upto, next, same) in
    let above : 2 ^ k ≤ n / 2 = omega (arith, from, twice) in
    length-digits_of_step 2 n (omega arith) (omega (arith, from, twice, some)) ∙ ap (λ m. m + 1) (count_between k (n / 2) above below) ∙ omega arith

-- the powers of two beside a number
pub record IsTop (n k : ℕ) : Type 0 where
  pub from : 2 ^ k ≤ n
  pub upto : n < 2 ^ (k + 1)

less_than_power : (n : ℕ) → n < 2 ^ n
less_than_power zero = omega arith
less_than_power (suc n) = let before = less_than_power n in let some = pow_pos n in omega (arith, before, some, two-pow-succ n)

top_below : (f n : ℕ) → 0 < n → n < 2 ^ f → (k : ℕ) × IsTop n k
top_below zero n some below = absurd (omega (arith, some, below))
top_below (suc f) n some below = elim (cases_lt n (2 ^ f)) [
  | inl less ↦ top_below f n some less
  | inr from ↦ (f, record { from = from; upto = subst (λ m. n < 2 ^ m) (let e : suc f ≡ f + 1 = omega arith in e) below })
]

pub top_of : (n : ℕ) → 0 < n → (k : ℕ) × IsTop n k
top_of n some = top_below n n some (less_than_power n)

-- its highest digit is one
top_digit : (n k : ℕ) → IsTop n k → digit n k ≡ true
unfolding digit
top_digit n k top =
    let next : 2 ^ (k + 1) ≡ 2 ^ k + 2 ^ k = ap (λ m. 2 ^ m) (let e : k + 1 ≡ suc k = omega arith in e) ∙ two-pow-succ k in
    let rest : n - 2 ^ k < 2 ^ k = omega (arith, top.from, top.upto, next) in
    let whole : n ≡ 1 * 2 ^ k + (n - 2 ^ k) = omega (arith, top.from) in
    ap (λ m. m % 2 == 1) (ap (λ m. m / 2 ^ k) whole ∙ div-mul-add 1 (2 ^ k) (n - 2 ^ k) rest)

-- ---- digits with a one before them

-- the digits of a number above 2 ^ k by less than that
pub digits_be-one : (k low : ℕ) → low < 2 ^ k → digits_be (k + 1) (2 ^ k + low) ≡ true ∷ digits_be k low
digits_be-one k low below =
    let next : 2 ^ (k + 1) ≡ 2 ^ k + 2 ^ k = ap (λ m. 2 ^ m) (let e : k + 1 ≡ suc k = omega arith in e) ∙ two-pow-succ k in
    let many = length-digits_be k low in
    sym (tabulate-from_elements (true ∷ digits_be k low) (k + 1) (λ j. digit (2 ^ k + low) (k + 1 - 1 - j)) false (omega (arith, many))
    (λ j h. each j h))
  where
    each : (j : ℕ) → j < k + 1 → get_or (true ∷ digits_be k low) j false ≡ digit (2 ^ k + low) (k + 1 - 1 - j)
    each zero h =
        let next : 2 ^ (k + 1) ≡ 2 ^ k + 2 ^ k = ap (λ m. 2 ^ m) (let e : k + 1 ≡ suc k = omega arith in e) ∙ two-pow-succ k in
        let e : k + 1 - 1 - zero ≡ k = omega arith in
        sym (ap (digit (2 ^ k + low)) e ∙ top_digit (2 ^ k + low) k (record { from = omega arith; upto = omega (arith, below, next) }))
    each (suc j) h =
        let p : ℕ = k - 1 - j in
        let e : k + 1 - 1 - suc j ≡ k - 1 - j = omega arith in
        let whole : 2 ^ k + low ≡ 1 * 2 ^ k + low = omega arith in
        let rest : (2 ^ k + low) % 2 ^ k ≡ low = ap (λ m. m % 2 ^ k) whole ∙ mod-mul-add 1 (2 ^ k) low below in
        get_or-tabulate k (λ i. digit low (k - 1 - i)) j false (omega (arith, h))
        ∙ sym (ap (digit (2 ^ k + low)) e ∙ sym (digit-mod (2 ^ k + low) k (k - 1 - j) (omega (arith, h))) ∙ ap (λ m. digit m (k - 1 - j)) rest)

-- a list whose first element is true has a number from that digit's power on
pub number_be-first : (xs : List Bool) → element xs 0 ≡ true → (0 < length xs) × (2 ^ (length xs - 1) ≤ number_be xs)
number_be-first [] e = absurd (true_is_not_false (sym e))
number_be-first (x ∷ xs) e =
    elim (cases_lt (number_be (x ∷ xs)) (2 ^ (length (x ∷ xs) - 1))) [
      | inl less ↦ (
          let top = digit-number_be (x ∷ xs) 0 (omega arith) in
          let same : length (x ∷ xs) - 1 - 0 ≡ length (x ∷ xs) - 1 = omega arith in
          let none = digit_above (number_be (x ∷ xs)) (length (x ∷ xs) - 1) (length (x ∷ xs) - 1) less (omega arith) in
          absurd (true_is_not_false (sym e ∙ sym top ∙ ap (digit (number_be (x ∷ xs))) same ∙ none)))
      | inr from ↦ (omega arith, from)
    ]

-- and one of `k + 1` elements has two to the `k` and the number of the other `k`
pub number_be-one : (xs : List Bool) (k : ℕ) → length xs ≡ k + 1 → element xs 0 ≡ true → number_be xs ≡ 2 ^ k + number_be (drop 1 xs)
number_be-one [] k long e = absurd (true_is_not_false (sym e))
number_be-one (x ∷ ys) k long e =
    let many : length ys ≡ k = omega (arith, long) in
    let low : number_be ys < 2 ^ k = subst (λ m. number_be ys < 2 ^ m) many (number_be-below ys) in
    let next : 2 ^ (k + 1) ≡ 2 ^ k + 2 ^ k = ap (λ m. 2 ^ m) (let e2 : k + 1 ≡ suc k = omega arith in e2) ∙ two-pow-succ k in
    let digits : digits_be (k + 1) (2 ^ k + number_be ys) ≡ x ∷ ys = digits_be-one k (number_be ys) low ∙ ap (λ us. true ∷ us) (digits_be-number ys k many) ∙ ap (λ b. b ∷ ys) (sym e) in
    ap number_be (sym digits) ∙ number_be-back (k + 1) (2 ^ k + number_be ys) (omega (arith, low, next))

-- the number of a list is zero exactly where all of it is false
pub number_be-none : (xs : List Bool) → AllAre false xs → number_be xs ≡ 0
number_be-none xs none =
    let all : digits_be (length xs) 0 ≡ xs = sym (tabulate-from_elements xs (length xs) (λ j. digit 0 (length xs - 1 - j)) false refl (λ j h. none j h ∙ sym (digit-zero (length xs - 1 - j)))) in
    ap number_be (sym all) ∙ number_be-back (length xs) 0 (pow_pos (length xs))

pub none-number_be : (xs : List Bool) → number_be xs ≡ 0 → AllAre false xs
none-number_be xs zero_is j h = sym (digit-number_be xs j h) ∙ ap (λ n. digit n (length xs - 1 - j)) zero_is ∙ digit-zero (length xs - 1 - j)

-- ---- codes by their digits

-- the code of one less than a number, by how many digits the number has
pub golomb-is : (k m : ℕ) → IsTop m k → golomb (m - 1) ≡ replicate k false ++ digits_be (k + 1) m
unfolding golomb
golomb-is k m top =
    let some = pow_pos k in
    let above : m - 1 + 1 ≡ m = omega (arith, some, top.from) in
    let count = count_between k m top.from top.upto in
    let less : k + 1 - 1 ≡ k = omega arith in
    ap (λ n. replicate (digit_count n - 1) false ++ digits_be (digit_count n) n) above
    ∙ ap (λ n. replicate (n - 1) false ++ digits_be n m) count
    ∙ ap (λ n. replicate n false ++ digits_be (k + 1) m) less

pub length-golomb : (k m : ℕ) → IsTop m k → length (golomb (m - 1)) ≡ k + (k + 1)
length-golomb k m top =
    ap length (golomb-is k m top) ∙ length-append (replicate k false) (digits_be (k + 1) m)
    ∙ omega (arith, length-replicate k false, length-digits_be (k + 1) m)

-- the same by the power and what is above it, as it is written
pub golomb-written : (k low : ℕ) → low < 2 ^ k → golomb (2 ^ k + low - 1) ≡ replicate k false ++ (true ∷ []) ++ digits_be k low
golomb-written k low below =
    let next : 2 ^ (k + 1) ≡ 2 ^ k + 2 ^ k = ap (λ m. 2 ^ m) (let e : k + 1 ≡ suc k = omega arith in e) ∙ two-pow-succ k in
    golomb-is k (2 ^ k + low) (record { from = omega arith; upto = omega (arith, below, next) })
    ∙ ap (λ us. replicate k false ++ us) (digits_be-one k low below)
    ∙ sym (append_assoc (replicate k false) (true ∷ []) (digits_be k low))

pub length-written : (k low : ℕ) → low < 2 ^ k → length (golomb (2 ^ k + low - 1)) ≡ 2 * k + 1
length-written k low below =
    ap length (golomb-written k low below) ∙ length-append (replicate k false ++ (true ∷ [])) (digits_be k low)
    ∙ omega (arith, length-append (replicate k false) (true ∷ []), length-replicate k false, length-digits_be k low)

-- a list begins with the code of number n, which has k zeros
pub record IsStart (xs : List Bool) (n k : ℕ) : Type 0 where
  pub top : IsTop (n + 1) k
  pub long : k + (k + 1) ≤ length xs
  pub zeros : (j : ℕ) → j < k → element xs j ≡ false
  pub one : element xs k ≡ true
  pub digits : take (k + 1) (drop k xs) ≡ digits_be (k + 1) (n + 1)

pub part_long : (xs ys : List Bool) → StartsWith xs ys → length ys ≤ length xs
part_long xs ys e = elim (cases_lt (length xs) (length ys)) [
  | inl less ↦ (
      let cut : length (take (length ys) xs) ≤ length xs = at_most (length ys) xs in
      let same : length (take (length ys) xs) ≡ length ys = ap length e in
      absurd (omega (arith, less, cut, same)))
  | inr more ↦ more
]
  where
    at_most : (n : ℕ) (us : List Bool) → length (take n us) ≤ length us
    at_most n us = omega (arith, length-append (take n us) (drop n us), ap length (take-append-drop n us))

pub start_of : (xs : List Bool) (n : ℕ) → StartsWith xs (golomb n) → (k : ℕ) × IsStart xs n k
start_of xs n e =
    let found = top_of (n + 1) (omega arith) in
    let k : ℕ = found.0 in
    let top = found.1 in
    let back : n + 1 - 1 ≡ n = omega arith in
    let is : golomb n ≡ replicate k false ++ digits_be (k + 1) (n + 1) = ap golomb (sym back) ∙ golomb-is k (n + 1) top in
    let many : length (golomb n) ≡ k + (k + 1) = ap (λ m. length (golomb m)) (sym back) ∙ length-golomb k (n + 1) top in
    let long : k + (k + 1) ≤ length xs = omega (arith, many, part_long xs (golomb n) e) in
    let shown : take (k + (k + 1)) xs ≡ replicate k false ++ digits_be (k + 1) (n + 1) = ap (λ m. take m xs) (sym many) ∙ e ∙ is in
    let zeros_long = length-replicate k false in
    let digits_long = length-digits_be (k + 1) (n + 1) in
    let digits : take (k + 1) (drop k xs) ≡ digits_be (k + 1) (n + 1) = sym (drop-take k (k + 1) xs) ∙ ap (drop k) shown ∙ drop_at (replicate k false) (digits_be (k + 1) (n + 1)) k zeros_long in
    let first : k + 1 - 1 - 0 ≡ k = omega arith in
    let back_to : k + 0 ≡ k = omega arith in
    let at : element xs k ≡ digit (n + 1) k =
    ap (element xs) (sym back_to) ∙ sym (get_or-drop k xs 0 false) ∙ sym (get_or-take (k + 1) (drop k xs) 0 false (omega arith)) ∙ ap (λ us. element us 0) digits
    ∙ get_or-tabulate (k + 1) (λ j. digit (n + 1) (k + 1 - 1 - j)) 0 false (omega arith) ∙ ap (digit (n + 1)) first in (
      k,
      record {
        top = top;
        long = long;
        zeros = λ j h. sym (get_or-take (k + (k + 1)) xs j false (omega (arith, h))) ∙ ap (λ us. element us j) shown
            ∙ get_or_append_left (replicate k false) (digits_be (k + 1) (n + 1)) false j (omega (arith, h, zeros_long)) ∙ get_or-replicate k j false false h;
        one = at ∙ top_digit (n + 1) k top;
        digits = digits;
      },
    )

-- its zeros are those before the first that is not
same_zeros : (xs : List Bool) (k l : ℕ) → ((j : ℕ) → j < k → element xs j ≡ false) → element xs k ≡ true → ((j : ℕ) → j < l → element xs j ≡ false) → element xs l ≡ true → k ≡ l
same_zeros xs k l zeros one zeros2 one2 = elim (cases_order k l) [
  | inl same ↦ same
  | inr (inl less) ↦ absurd (true_is_not_false (sym one ∙ zeros2 k less))
  | inr (inr more) ↦ absurd (true_is_not_false (sym one2 ∙ zeros l more))
]

-- no two codes begin one list
pub one_code : (xs : List Bool) (n m : ℕ) → StartsWith xs (golomb n) → StartsWith xs (golomb m) → n ≡ m
one_code xs n m first second =
    let a = start_of xs n first in
    let b = start_of xs m second in
    let k : ℕ = a.0 in
    let l : ℕ = b.0 in
    let same : k ≡ l = same_zeros xs k l a.1.zeros a.1.one b.1.zeros b.1.one in
    let digits : digits_be (k + 1) (n + 1) ≡ digits_be (k + 1) (m + 1) = sym a.1.digits ∙ subst (λ p. take (p + 1) (drop p xs) ≡ digits_be (p + 1) (m + 1)) (sym same) b.1.digits in
    let below : m + 1 < 2 ^ (k + 1) = subst (λ p. m + 1 < 2 ^ (p + 1)) (sym same) b.1.top.upto in
    let above : n + 1 ≡ m + 1 = sym (number_be-back (k + 1) (n + 1) a.1.top.upto) ∙ ap number_be digits ∙ number_be-back (k + 1) (m + 1) below in
    omega (arith, above)

-- a list with no one begins with no code, and so does one that ends before the digits
pub no_one-no_code : (xs : List Bool) → AllAre false xs → (n : ℕ) → ¬ StartsWith xs (golomb n)
no_one-no_code xs none n e =
    let a = start_of xs n e in
    let long = a.1.long in
    absurd (true_is_not_false (sym a.1.one ∙ none a.0 (omega (arith, long))))

pub short-no_code : (xs : List Bool) (z : ℕ) → element xs z ≡ true → ((j : ℕ) → j < z → element xs j ≡ false) → length xs < z + (z + 1) → (n : ℕ) → ¬ StartsWith xs (golomb n)
short-no_code xs z one zeros short n e =
    let a = start_of xs n e in
    let same : a.0 ≡ z = same_zeros xs a.0 z a.1.zeros a.1.one zeros one in
    let long = a.1.long in
    absurd (omega (arith, long, same, short))

-- the digits of a code, and the number of it
pub code_of : (xs digits : List Bool) (n : ℕ) → IsCode xs digits → n + 1 ≡ number_be digits → StartsWith xs (golomb n) × (length (golomb n) ≡ 2 * length digits - 1)
code_of xs digits n code above =
    let first = number_be-first digits code.0 in
    let k : ℕ = length digits - 1 in
    let long : length digits ≡ k + 1 = omega (arith, first.0) in
    let below : number_be digits < 2 ^ (k + 1) = subst (λ m. number_be digits < 2 ^ m) long (number_be-below digits) in
    let top : IsTop (number_be digits) k = record { from = first.1; upto = below } in
    let back : n ≡ number_be digits - 1 = omega (arith, above) in
    let is : golomb n ≡ replicate k false ++ digits = ap golomb back ∙ golomb-is k (number_be digits) top ∙ ap (λ us. replicate k false ++ us) (digits_be-number digits (k + 1) long) in
    let many : length (golomb n) ≡ 2 * length digits - 1 = ap (λ m. length (golomb m)) back ∙ length-golomb k (number_be digits) top ∙ omega (arith, long) in
    (subst (StartsWith xs) (sym is) code.1, many)

-- a code of a number that is lacking
pub code_lacking : (xs digits : List Bool) (IsLacking : ℕ → Type 0) → IsCode xs digits → IsLacking (number_be digits - 1) → (n : ℕ) × IsLacking n × StartsWith xs (golomb n)
code_lacking xs digits IsLacking code lacking =
    let first = number_be-first digits code.0 in
    let some = pow_pos (length digits - 1) in
    let above : number_be digits - 1 + 1 ≡ number_be digits = omega (arith, first.1, some) in
    (number_be digits - 1, lacking, (code_of xs digits (number_be digits - 1) code above).0)

-- a code of a number that passes a bound
pub code_beyond : (xs digits : List Bool) (bound : ℕ) → IsCode xs digits → bound < number_be digits → (n : ℕ) × (bound ≤ n) × StartsWith xs (golomb n)
code_beyond xs digits bound code beyond = code_lacking xs digits (λ n. bound ≤ n) code (omega (arith, beyond))

-- where the first one of a list stands, its digits make a code
pub code_found : (xs digits : List Bool) (z : ℕ) → element xs z ≡ true → ((j : ℕ) → j < z → element xs j ≡ false) → z + (z + 1) ≤ length xs → digits ≡ take (z + 1) (drop z xs) → IsCode xs digits
code_found xs digits z one zeros room is =
    let after : length (drop z xs) ≡ length xs - z = length-drop z xs in
    let long : length digits ≡ z + 1 = ap length is ∙ length-take-le (z + 1) (drop z xs) (omega (arith, after, room)) in
    let back_to : z + 0 ≡ z = omega arith in
    let less : length digits - 1 ≡ z = omega (arith, long) in
    let all : length (replicate z false ++ digits) ≡ z + (z + 1) = length-append (replicate z false) digits ∙ omega (arith, length-replicate z false, long) in
    let front : take z xs ≡ replicate z false = zeros_are xs z zeros (omega (arith, room)) in
    let joined : take (z + (z + 1)) xs ≡ replicate z false ++ digits = take-add z (z + 1) xs ∙ ap (λ us. us ++ take (z + 1) (drop z xs)) front ∙ ap (λ us. replicate z false ++ us) (sym is) in (
      ap (λ us. element us 0) is ∙ get_or-take (z + 1) (drop z xs) 0 false (omega arith) ∙ get_or-drop z xs 0 false ∙ ap (element xs) back_to ∙ one,
      subst (λ m. StartsWith xs (replicate m false ++ digits)) (sym less) (ap (λ m. take m xs) all ∙ joined),
    )
  where
    zeros_are : (us : List Bool) (n : ℕ) → ((j : ℕ) → j < n → element us j ≡ false) → n ≤ length us → take n us ≡ replicate n false
    zeros_are us n none inside =
        same_elements (take n us) (replicate n false) (length-take-le n us inside ∙ sym (length-replicate n false))
        (λ j h. let below : j < n = omega (arith, h, length-replicate n false) in get_or-take n us j false below ∙ none j below ∙ sym (get_or-replicate n j false false below))
