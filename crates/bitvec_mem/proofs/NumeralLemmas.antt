-- How a number's text grows by its last digit.
use Rattle.std.proofs.Common.{◌≡◌, ℕ, zero, suc, ◌+◌, ◌-◌, ◌*◌, ◌/◌, ◌%◌, ◌^◌, ◌<◌, ◌≤◌, Bool, List, [], ◌∷◌, ◌++◌, length, map, replicate, refl, sym, ap, ◌∙◌, append_assoc, append-nil, arith, ◌⊎◌, inl, inr}
use Rattle.std.proofs.lemmas.List.{map-append, replicate-append-replicate}
use Rattle.std.proofs.lemmas.Int.Digits.{digits_of_step, length-digits_of_step}
use Rattle.std.proofs.Math.Nat.{zero-div, div-lt_iff_lt-mul, zero-mod, two-pow-succ, mul-le-mul_left}
use Rattle.std.specs.Fmt.{digit_glyph}
use Rattle.std.specs.Int.Digits.{digits_of, AllBelowBase}
use Rattle.std.specs.Str.{IsAscii}
use Rattle.std.proofs.lemmas.Str.{IsAscii-append}
use Rattle.std.proofs.lemmas.Str.Ascii.{IsAscii-nil, IsAscii-cons}
use Rattle.std.proofs.lemmas.Int.Digits.{all_below_base_digits_of}
use Rattle.std.proofs.lemmas.Bool.Decides.{nat_tests}
use Rattle.std.proofs.Common.{true, false}
use Rattle.bitvec_mem.specs.Numeral.{numeral}

-- no digits are asked for, and zero has none
pub numeral_none : (base : ℕ) (upper : Bool) → numeral base upper 0 0 ≡ []
unfolding numeral
numeral_none base upper = refl

-- zeros before digits, and one digit more at the end
zeros_then : (k : ℕ) (a : List ℕ) (d : ℕ) → replicate k 48 ++ (a ++ (d ∷ [])) ≡ (replicate k 48 ++ a) ++ (d ∷ [])
zeros_then k a d = sym (append_assoc (replicate k 48) a (d ∷ []))

-- one zero more
zeros_end : (k : ℕ) → replicate {A = ℕ} (suc k - 0) 48 ++ [] ≡ (replicate {A = ℕ} (suc k - 1 - 0) 48 ++ []) ++ (48 ∷ [])
zeros_end k =
    let e : suc k - 0 ≡ k + 1 = omega arith in
    let f : suc k - 1 - 0 ≡ k = omega arith in
    append-nil (replicate {A = ℕ} (suc k - 0) 48) ∙ ap (λ m. replicate {A = ℕ} m 48) e ∙ sym (replicate-append-replicate {A = ℕ} k 1 48)
    ∙ sym (ap (λ xs. xs ++ (48 ∷ [])) (append-nil (replicate {A = ℕ} (suc k - 1 - 0) 48) ∙ ap (λ m. replicate {A = ℕ} m 48) f))

-- where something is left to write, a place is left
pub place_left : (at rest owed : ℕ) → rest < 2 ^ at → owed ≤ at → (0 < rest) ⊎ (0 < owed) → 0 < at
place_left zero rest owed h k w = absurd (elim w [ inl p ↦ omega arith | inr p ↦ omega arith ])
place_left (suc at) rest owed h k w = omega arith

-- a digit at the end
pub numeral_step : (base : ℕ) (upper : Bool) (least n : ℕ) → 2 ≤ base → (0 < n) ⊎ (0 < least) → numeral base upper least n ≡ numeral base upper (least - 1) (n / base) ++ (digit_glyph upper (n % base) ∷ [])
unfolding numeral
numeral_step base upper zero zero h w = absurd (elim w [ inl p ↦ omega arith | inr p ↦ omega arith ])
numeral_step base upper (suc least) zero h w =
    rw (zero-div base, zero-mod base) (zeros_end least)
numeral_step base upper least (suc n) h w =
    let len = length-digits_of_step base (suc n) h (omega arith) in
    let ds = digits_of_step base (suc n) h (omega arith) in
    let k : least - length (digits_of base (suc n)) ≡ least - 1 - length (digits_of base (suc n / base)) = omega (arith, len) in
    ap (λ m. replicate m 48 ++ map (digit_glyph upper) (digits_of base (suc n))) k ∙ ap (λ xs. replicate (least - 1 - length (digits_of base (suc n / base))) 48 ++ map (digit_glyph upper) xs) ds
    ∙ ap (λ xs. replicate (least - 1 - length (digits_of base (suc n / base))) 48 ++ xs) (map-append (digit_glyph upper) (digits_of base (suc n / base)) (suc n % base ∷ []))
    ∙ zeros_then _ _ _

-- the front of a number that has a place less
pub front_below : (base n k : ℕ) → 2 ≤ base → 0 < k → n < 2 ^ k → n / base < 2 ^ (k - 1)
front_below base n zero h p q = absurd (omega arith)
front_below base n (suc k) h p q =
    let less : n < 2 ^ k * base = omega (arith, two-pow-succ k, mul-le-mul_left (2 ^ k) h) in
    let e : suc k - 1 ≡ k = omega arith in
    let positive : 0 < base = omega arith in
    rw e ((div-lt_iff_lt-mul {k = base} {x = n} {y = 2 ^ k} positive).1 less)

-- a digit is ASCII
digit_glyph-ascii : (upper : Bool) (d : ℕ) → d < 16 → digit_glyph upper d < 128
digit_glyph-ascii true d h = grind (arith, nat_tests)
digit_glyph-ascii false d h = grind (arith, nat_tests)

zeros-IsAscii : (k : ℕ) → IsAscii (replicate {A = ℕ} k 48)
zeros-IsAscii zero = IsAscii-nil
zeros-IsAscii (suc k) = IsAscii-cons 48 (replicate {A = ℕ} k 48) (omega arith) (zeros-IsAscii k)

glyphs-IsAscii : (upper : Bool) (base : ℕ) (ds : List ℕ) → base ≤ 16 → AllBelowBase base ds → IsAscii (map (digit_glyph upper) ds)
glyphs-IsAscii upper base [] h all = IsAscii-nil
glyphs-IsAscii upper base (d ∷ ds) h all =
    let lt = all.0 in
    IsAscii-cons (digit_glyph upper d) (map (digit_glyph upper) ds) (digit_glyph-ascii upper d (omega (arith, all.0))) (glyphs-IsAscii upper base ds h all.1)

-- the text is ASCII
pub numeral-IsAscii : (base : ℕ) (upper : Bool) (least n : ℕ) → 2 ≤ base → base ≤ 16 → IsAscii (numeral base upper least n)
unfolding numeral
numeral-IsAscii base upper least n low high =
    IsAscii-append _ _ (zeros-IsAscii (least - length (digits_of base n))) (glyphs-IsAscii upper base (digits_of base n) high (all_below_base_digits_of base n low))
