-- How a sieve comes to the primes.
use Rattle.std.proofs.Common.{◌≡◌, ◌⊎◌, ℕ, ◌+◌, ◌-◌, ◌*◌, ◌/◌, ◌%◌, ◌<◌, ◌≤◌, ◌↔◌, Bool, true, false, List, [], ◌∷◌, length, set, zero, suc, refl, sym, ap, subst, ◌∙◌, inl, inr, arith, cond}
use Rattle.std.specs.List.{All, filter, range_with_len, Contains}
use Rattle.std.specs.List.Sorted.{IsStrictlyIncreasing}
use Rattle.std.proofs.Math.Nat.{mul-mod_left, div-mul_cancel, le-div_iff_mul-le, mul-le-mul_right}
use Rattle.std.proofs.lemmas.Bool.{cases_eq, cases_lt}
use Rattle.std.proofs.lemmas.List.{get_or-set_other, get_or-set_same, length-set}
use Rattle.std.proofs.lemmas.List.Elements.{filter_passes, All-filter, All-contains, All-from_get_or}
use Rattle.std.proofs.lemmas.List.FromFn.{length-range_with_len, get_or-range_with_len}
use Rattle.std.proofs.lemmas.List.Kept.{IsStrictlyIncreasing-filter}
use Rattle.std.proofs.lemmas.Nat.Gcd.{dvd_of_mod-eq-zero, mod-eq-zero_of_dvd, dvd_trans}
use Rattle.bitvec.specs.Span.{element}
use Rattle.example_primes.specs.Primes.{HasNoDivisorBelow, IsPrime, IsSetOf}

differ : true ≡ false → ⊥
differ e = cc

-- a number that is out of the set has a divisor there already
pub sieved_same : (p : ℕ) (xs : List Bool) → 1 < p → p < length xs → element xs p ≡ false → IsSetOf (HasNoDivisorBelow p) xs → IsSetOf (HasNoDivisorBelow (p + 1)) xs
sieved_same p xs above inside out so n within =
    let none : (n : ℕ) → n % p ≡ 0 → p < n → ((d : ℕ) → 1 < d → d < p → d < n → ¬ (n % d ≡ 0)) → ⊥ = λ n divides less old.
    differ (sym ((so p inside).1 (
      above,
      λ d more less_d _ zero.
          old d more less_d (omega (arith, less_d, less)) (mod-eq-zero_of_dvd d (dvd_trans d (dvd_of_mod-eq-zero d zero) (dvd_of_mod-eq-zero p divides))),
    )) ∙ out) in (
      λ is. let old = (so n within).0 is in (
        old.0,
        λ d more below less zero.
            elim (cases_lt d p) [
              | inl before ↦ old.1 d more before less zero
              | inr last ↦ (let e : d ≡ p = omega (arith, below, last) in none n (subst (λ m. n % m ≡ 0) e zero) (omega (arith, e, less)) old.1)
            ],
      ),
      λ new. (so n within).1 (new.0, λ d more below less zero. new.1 d more (omega (arith, below)) less zero),
    )

-- the multiples of a number are taken out
pub sieved_more : (p : ℕ) (xs ys : List Bool) → length ys ≡ length xs → IsSetOf (HasNoDivisorBelow p) xs
    → ((n : ℕ) → n < length xs → (element ys n ≡ true) ↔ ((element xs n ≡ true) × (¬ ((p < n) × (n % p ≡ 0)))))
    → 1 < p → IsSetOf (HasNoDivisorBelow (p + 1)) ys
sieved_more p xs ys long so out above n within =
    let here : n < length xs = omega (arith, within, long) in (
      λ is. let both = (out n here).0 is in let old = (so n here).0 both.0 in (
        old.0,
        λ d more below less zero.
            elim (cases_lt d p) [
              | inl before ↦ old.1 d more before less zero
              | inr last ↦ (let e : d ≡ p = omega (arith, below, last) in both.1 (omega (arith, e, less), subst (λ m. n % m ≡ 0) e zero))
            ],
      ),
      λ new. (out n here).1 ((so n here).1 (new.0, λ d more below less zero. new.1 d more (omega (arith, below)) less zero), λ it. new.1 p above (omega arith) it.0 it.1),
    )

-- what stays while the multiples of p from two times on to before `times` times are taken out
abbrev pub IsWithout : ℕ → ℕ → List Bool → List Bool → Type 0
IsWithout p times xs ys = (length ys ≡ length xs) × ((n : ℕ) → n < length xs → (element ys n ≡ true) ↔ ((element xs n ≡ true) × ((k : ℕ) → 1 < k → k < times → ¬ (n ≡ k * p))))

pub without_none : (p : ℕ) (xs : List Bool) → IsWithout p 2 xs xs
without_none p xs = (refl, λ n within. (λ is. (is, λ k more less. absurd (omega (arith, more, less))), λ both. both.0))

pub without_past : (p t : ℕ) (xs ys : List Bool) → length xs ≤ t * p → IsWithout p t xs ys → IsWithout p (t + 1) xs ys
without_past p t xs ys past so = (
  so.0,
  λ n within. (
    λ is. let old = (so.1 n within).0 is in (
      old.0,
      λ k more less e.
          elim (cases_lt k t) [
            | inl before ↦ old.1 k more before e
            | inr last ↦ (let same : k ≡ t = omega (arith, less, last) in let row : k * p ≡ t * p = ap (λ m. m * p) same in absurd (omega (arith, e, row, within, past)))
          ],
    ),
    λ new. (so.1 n within).1 (new.0, λ k more less e. new.1 k more (omega (arith, less)) e),
  ),
)

pub without_more : (p t : ℕ) (xs ys zs : List Bool) → 1 < t → t * p < length xs → zs ≡ set ys (t * p) false → IsWithout p t xs ys → IsWithout p (t + 1) xs zs
without_more p t xs ys zs above inside is so =
    let at : t * p < length ys = omega (arith, inside, so.0) in (
      ap (λ (us : List Bool). length us) is ∙ length-set ys (t * p) false ∙ so.0,
      λ n within.
          elim (cases_eq n (t * p)) [
            | inl e ↦ (
                let here : element zs n ≡ false = ap (λ (us : List Bool). element us n) is ∙ ap (λ m. element (set ys (t * p) false) m) e ∙ get_or-set_same ys (t * p) false false at in
                (λ on. absurd (differ (sym on ∙ here)), λ new. absurd (new.1 t above (omega arith) e)))
            | inr other ↦ (
                let here : element zs n ≡ element ys n = ap (λ (us : List Bool). element us n) is ∙ get_or-set_other ys (t * p) n false false other in (
                  λ on. let old = (so.1 n within).0 (sym here ∙ on) in (
                    old.0,
                    λ k more less e.
                        elim (cases_lt k t) [
                          | inl before ↦ old.1 k more before e
                          | inr last ↦ (let same : k ≡ t = omega (arith, less, last) in other (e ∙ ap (λ m. m * p) same))
                        ],
                  ),
                  λ new. here ∙ (so.1 n within).1 (new.0, λ k more less e. new.1 k more (omega (arith, less)) e),
                ))
          ],
    )

-- where each multiple below the length is out, each number that p divides and that is above it is
pub without_all : (p t : ℕ) (xs ys : List Bool) → 1 < p → length xs / p < t → IsWithout p t xs ys
    → (n : ℕ) → n < length xs → (element ys n ≡ true) ↔ ((element xs n ≡ true) × (¬ ((p < n) × (n % p ≡ 0))))
without_all p t xs ys above past so n within =
    let some : 0 < p = omega (arith, above) in (
      λ on. let old = (so.1 n within).0 on in (
        old.0,
        λ it.
            let is : n / p * p ≡ n = div-mul_cancel p (dvd_of_mod-eq-zero p it.1) in
            let most : n / p ≤ length xs / p = (le-div_iff_mul-le some).1 (omega (arith, is, within)) in
            let more : 1 < n / p = elim (cases_lt 1 (n / p)) [
              | inl more ↦ more
              | inr few ↦ (let row : n / p * p ≤ 1 * p = mul-le-mul_right p few in absurd (omega (arith, row, is, it.0)))
            ] in
            old.1 (n / p) more (omega (arith, most, past)) (sym is),
      ),
      λ both. (so.1 n within).1 (
        both.0,
        λ k more less e.
            let row : 2 * p ≤ k * p = mul-le-mul_right p more in
            both.1 (omega (arith, row, e, some), ap (λ m. m % p) e ∙ mul-mod_left k p),
      ),
    )

-- the numbers of a set, in rising order
rising_range : (n : ℕ) → IsStrictlyIncreasing (range_with_len 0 n)
rising_range n k h =
    let long : length (range_with_len 0 n) ≡ n = length-range_with_len 0 n in
    let here = get_or-range_with_len 0 n k 0 (omega (arith, h, long)) in
    let next = get_or-range_with_len 0 n (k + 1) 0 (omega (arith, h, long)) in
    omega (arith, here, next)

pub numbers_rise : (xs : List Bool) → IsStrictlyIncreasing (filter (element xs) (range_with_len 0 (length xs - 0)))
numbers_rise xs = IsStrictlyIncreasing-filter (element xs) (range_with_len 0 (length xs - 0)) (rising_range (length xs - 0))

-- an element that passes a test is in what the test keeps
Contains-cons : {X : Type 0} (y : X) (ys : List X) (x : X) → Contains ys x → Contains (y ∷ ys) x
Contains-cons y ys x at = (suc at.0, omega (arith, at.1), at.2)

kept : {X : Type 0} (keeps : Bool) (y : X) (ys : List X) (x : X) → Contains ys x ⊎ ((keeps ≡ true) × (y ≡ x)) → Contains (cond keeps (y ∷ ys) ys) x
kept true y ys x (inl at) = Contains-cons y ys x at
kept true y ys x (inr it) = (zero, omega arith, it.1)
kept false y ys x (inl at) = at
kept false y ys x (inr it) = absurd (cc)

filter_keeps : {X : Type 0} (test : X → Bool) (xs : List X) (x : X) → Contains xs x → test x ≡ true → Contains (filter test xs) x
filter_keeps test [] x at passes = absurd (omega (arith, at.1))
filter_keeps test (y ∷ ys) x (zero, less, is) passes = kept (test y) y (filter test ys) x (inr (ap test is ∙ passes, is))
filter_keeps test (y ∷ ys) x (suc k, less, is) passes = kept (test y) y (filter test ys) x (inl (filter_keeps test ys x (k, omega (arith, less), is) passes))

zero_more : (n : ℕ) → 0 + n ≡ n
zero_more n = omega arith

pub numbers_are : (P : ℕ → Type 0) (xs : List Bool) (numbers : List ℕ) (bound : ℕ) → numbers ≡ filter (element xs) (range_with_len 0 (length xs - 0)) → length xs ≡ bound
    → IsSetOf P xs → (n : ℕ) → Contains numbers n ↔ (P n × (n < bound))
numbers_are P xs numbers bound is many so n =
    let all : List ℕ = range_with_len 0 (length xs - 0) in
    let long : length all ≡ length xs - 0 = length-range_with_len 0 (length xs - 0) in
    let below : All (λ m. m < length xs) all = All-from_get_or (λ m. m < length xs) all 0 (λ i h. let e = get_or-range_with_len 0 (length xs - 0) i 0 (omega (arith, h, long)) in omega (arith, e, h, long)) in (
      λ at.
          let here : Contains (filter (element xs) all) n = subst (λ (ns : List ℕ). Contains ns n) is at in
          let on : element xs n ≡ true = All-contains (λ m. element xs m ≡ true) (filter (element xs) all) n (filter_passes (element xs) all) here in
          let less : n < length xs = All-contains (λ m. m < length xs) (filter (element xs) all) n (All-filter (element xs) (λ m. m < length xs) all below) here in
          ((so n less).0 on, omega (arith, less, many)),
      λ both.
          let less : n < length xs = omega (arith, both.1, many) in
          let inside : n < length all = omega (arith, long, less) in
          let at : Contains (filter (element xs) all) n = filter_keeps (element xs) all n (n, inside, get_or-range_with_len 0 (length xs - 0) n n (omega (arith, less)) ∙ zero_more n) ((so n less).1 both.0) in
          subst (λ (ns : List ℕ). Contains ns n) (sym is) at,
    )

-- a set that has the numbers below a bound, or none where no number below it is a prime
pub primes_are : (xs : List Bool) (numbers : List ℕ) (bound : ℕ) → numbers ≡ filter (element xs) (range_with_len 0 (length xs - 0)) → (2 < bound → length xs ≡ bound) → (bound ≤ 2 → length xs ≡ 0)
    → IsSetOf IsPrime xs → (n : ℕ) → Contains numbers n ↔ (IsPrime n × (n < bound))
primes_are xs numbers bound is long none so n =
    let both = numbers_are IsPrime xs numbers (length xs) is refl so n in (
      λ at. let it = both.0 at in (
        it.0,
        elim (cases_lt 2 bound) [
          | inl more ↦ (let e = long more in omega (arith, it.1, e))
          | inr few ↦ (let e = none few in absurd (omega (arith, it.1, e)))
        ],
      ),
      λ it. let e = long (omega (arith, it.0.0, it.1)) in both.1 (it.0, omega (arith, it.1, e)),
    )

-- a list with an element has its first
first_in : (ns : List ℕ) → 0 < length ns → (n : ℕ) × Contains ns n
first_in [] h = absurd (omega (arith, h))
first_in (n ∷ ns) h = (n, (zero, omega arith, refl))

-- a set of primes that has a number has one above 1
pub bound_above_2 : (xs : List Bool) (bound : ℕ) → (2 < bound → length xs ≡ bound) → (bound ≤ 2 → length xs ≡ 0) → IsSetOf IsPrime xs
    → 0 < length (filter (element xs) (range_with_len 0 (length xs - 0))) → 2 < bound
bound_above_2 xs bound long none so some =
    let first = first_in (filter (element xs) (range_with_len 0 (length xs - 0))) some in
    let is = (primes_are xs (filter (element xs) (range_with_len 0 (length xs - 0))) bound refl long none so first.0).0 first.1 in
    omega (arith, is.0.0, is.1)
