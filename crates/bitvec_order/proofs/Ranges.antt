-- A range of numbers, from its two ends.
use Rattle.std.proofs.Common.{◌≡◌, ℕ, zero, suc, ◌+◌, ◌-◌, ◌<◌, List, [], ◌∷◌, ◌++◌, length, sym, ap, ◌∙◌, arith}
use Rattle.std.specs.List.{range_with_len}
use Rattle.std.specs.Iterator.{MakesProgress, item_count}
use Rattle.std.proofs.Common.{Some, map, ◌^◌}
use Rattle.std.proofs.lemmas.List.{map-append}
use Rattle.std.proofs.lemmas.List.FromFn.{length-range_with_len}

-- how many numbers a range has
pub length-range : (a b : ℕ) → length (range_with_len a (b - a)) ≡ b - a
length-range a b = length-range_with_len a (b - a)

pub ruleset range_lengths = (length-range)

-- the first number, and the others
pub range_first : (a b : ℕ) → a < b → range_with_len a (b - a) ≡ a ∷ range_with_len (a + 1) (b - (a + 1))
range_first a b h =
    let e : b - a ≡ suc (b - (a + 1)) = omega arith in
    ap (λ n. range_with_len a n) e

range_push : (n a : ℕ) → range_with_len a (suc n) ≡ range_with_len a n ++ ((a + n) ∷ [])
range_push zero a = ap (λ x. x ∷ []) (omega arith)
range_push (suc n) a =
    let e : a + 1 + n ≡ a + suc n = omega arith in
    ap (λ xs. a ∷ xs) (range_push n (a + 1) ∙ ap (λ x. range_with_len (a + 1) n ++ (x ∷ [])) e)

-- the last number, and those before it
pub range_last : (a b : ℕ) → a < b → range_with_len a (b - a) ≡ range_with_len a (b - 1 - a) ++ ((b - 1) ∷ [])
range_last a b h =
    let e : b - a ≡ suc (b - 1 - a) = omega arith in
    let f : a + (b - 1 - a) ≡ b - 1 = omega arith in
    ap (λ n. range_with_len a n) e ∙ range_push (b - 1 - a) a ∙ ap (λ x. range_with_len a (b - 1 - a) ++ (x ∷ [])) f

-- a call that took an item off a list made progress
pub progress : {A B : Type 0} (can : List A → Type 0) (xs : List A) (x : B) (ys : List A) → can ys → length ys < length xs → MakesProgress can (item_count (λ (items : List A). items)) xs (Some x) ys
progress can xs x ys h less = record { on = λ _. (h, tt, less); keeps = h; rests = λ _. tt }

-- powers of two of a list with one number more
pub powers_push : (xs ys : List ℕ) (p n : ℕ) → xs ≡ ys ++ (p ∷ []) → n ≡ 2 ^ p → map (λ p. 2 ^ p) xs ≡ map (λ p. 2 ^ p) ys ++ (n ∷ [])
powers_push xs ys p n e f =
    ap (map (λ p. 2 ^ p)) e ∙ map-append (λ p. 2 ^ p) ys (p ∷ []) ∙ ap (λ x. map (λ p. 2 ^ p) ys ++ (x ∷ [])) (sym f)
