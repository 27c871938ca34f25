-- The numbers of words.
use Rattle.std.proofs.Common.{◌≡◌, ℕ, zero, suc, ◌^◌, ◌<◌, ◌≤◌, List, [], ◌∷◌, ◌++◌, inl, inr, length, get_or, map, take, take_all, append_assoc, refl, sym, subst, ap, ◌∙◌, arith}
use Rattle.std.proofs.lemmas.Bool.{cases_lt}
use Rattle.std.proofs.Math.Pow.{pow_mono}
use Rattle.std.specs.Prelude.{codes, IsSomeAnd, slice_get}
use Rattle.std.specs.List.{All, flat_map}
use Rattle.std.specs.Str.Parse.{IsNumeral, digits_value}
use Rattle.std.proofs.lemmas.List.{map-append}
use Rattle.std.proofs.lemmas.List.Elements.{All-get_or, All-push, All-same}
use Rattle.bits_text.specs.Words.{hexadecimal, memory_text, IsWordText, IsMemoryText, pieces}

flat_map-map : {A B C : Type 0} (g : B → List C) (f : A → B) (xs : List A) → flat_map g (map f xs) ≡ flat_map (λ x. g (f x)) xs
flat_map-map g f [] = refl
flat_map-map g f (x ∷ xs) = ap (λ ys. g (f x) ++ ys) (flat_map-map g f xs)

-- the first word and then the others, each after a comma, are the text of the whole
pub text_whole : {R : Type 0} (number : R → ℕ) (first : R) (rest memory : List R) (k : ℕ) (old mid new : List ℕ) → memory ≡ first ∷ rest → length rest ≤ k → mid ≡ old ++ hexadecimal (number first) → new ≡ mid ++ flat_map (λ w. 44 ∷ hexadecimal (number w)) (take k rest) → new ≡ old ++ memory_text (map number memory)
text_whole number first rest memory k old mid new whole all begun ended =
    let joined : mid ++ flat_map (λ w. 44 ∷ hexadecimal (number w)) rest ≡ old ++ (hexadecimal (number first) ++ flat_map (λ w. 44 ∷ hexadecimal (number w)) rest) =
    ap (λ t. t ++ flat_map (λ w. 44 ∷ hexadecimal (number w)) rest) begun ∙ append_assoc old (hexadecimal (number first)) (flat_map (λ w. 44 ∷ hexadecimal (number w)) rest) in
    ended ∙ ap (λ r. mid ++ flat_map (λ w. 44 ∷ hexadecimal (number w)) r) (take_all k rest all) ∙ joined
    ∙ ap (λ t. old ++ (hexadecimal (number first) ++ t)) (sym (flat_map-map (λ m. 44 ∷ hexadecimal m) number rest))
    ∙ ap (λ m. old ++ memory_text (map number m)) (sym whole)

-- what is no number of 128 bits is no word
pub no_number : (bits : ℕ) (text : List ℕ) → bits ≤ 128 → (IsNumeral 16 text × (digits_value 16 text ≤ 340282366920938463463374607431768211455) → ⊥) → IsWordText bits text → ⊥
no_number bits text small wrong w =
    let most : 2 ^ bits ≤ 2 ^ 128 = pow_mono small in
    wrong (w.0, omega (arith, w.1))

-- where a piece is no word, a text stands for no memory
pub no_memory : (bits : ℕ) (text piece : List ℕ) (k : ℕ) → (text ≡ codes "-" → ⊥) → (k < length (pieces text)) × (piece ≡ get_or (pieces text) k piece) → (IsWordText bits piece → ⊥) → (numbers : List ℕ) → IsMemoryText bits text numbers → ⊥
no_memory bits text piece k some place wrong numbers (inl p) = some p.0
no_memory bits text piece k some place wrong numbers (inr p) =
    wrong (subst (IsWordText bits) (sym place.1) (All-get_or (IsWordText bits) (pieces text) k piece place.0 p.0))

-- what holds of an element read, and of the first where others were read before, holds of the first
pub first_of : {X : Type 0} (P : X → Type 0) (xs : List X) (x : X) (k : ℕ) → (k < length xs) × (x ≡ get_or xs k x) → P x → (0 < k → IsSomeAnd (slice_get xs 0) P) → IsSomeAnd (slice_get xs 0) P
first_of P [] x k place here before = absurd (omega (arith, place.0))
first_of P (y ∷ ys) x zero place here before = subst P place.1 here
first_of P (y ∷ ys) x (suc k) place here before = before (omega arith)

-- each of some texts is a word, and the words have their numbers
pub record AreWords {R : Type 0} (bits : ℕ) (number : R → ℕ) (texts : List (List ℕ))
    (words : List R) : Type 0 where
  pub read : All (IsWordText bits) texts
  pub same : map number words ≡ map (digits_value 16) texts

-- a word more
pub words_more : {X R : Type 0} (bits : ℕ) (number : R → ℕ) (now : X → List ℕ) (ys : List X) (y : X)
    (ws : List R) (w : R) → AreWords bits number (map now ys) ws
    → IsWordText bits (now y) → number w ≡ digits_value 16 (now y)
    → AreWords bits number (map now (ys ++ y ∷ [])) (ws ++ w ∷ [])
words_more bits number now ys y ws w all here is =
    let e : map now (ys ++ y ∷ []) ≡ map now ys ++ now y ∷ [] = map-append now ys (y ∷ []) in
    let a : map number (ws ++ w ∷ []) ≡ map number ws ++ number w ∷ [] =
    map-append number ws (w ∷ []) in
    let b : map (digits_value 16) (map now (ys ++ y ∷ [])) ≡ map (digits_value 16) (map now ys) ++ digits_value 16 (now y) ∷ [] = ap (map (digits_value 16)) e ∙ map-append (digits_value 16) (map now ys) (now y ∷ []) in
    let same = all.same in
    record {
      read =
          All-same (IsWordText bits) _ _ e
          (All-push (IsWordText bits) (map now ys) (now y) all.read here);
      same = cc;
    }

-- nor is a number that is too large
pub too_large : (bits : ℕ) (text : List ℕ) (n : ℕ) → n ≡ digits_value 16 text → 2 ^ bits ≤ n → IsWordText bits text → ⊥
too_large bits text n e large w = omega (arith, w.1)

-- a number that is not too large fits
pub fits : (n bits : ℕ) → (2 ^ bits ≤ n → ⊥) → n < 2 ^ bits
fits n bits small = elim (cases_lt n (2 ^ bits)) [ inl l ↦ l | inr g ↦ absurd (small g) ]
