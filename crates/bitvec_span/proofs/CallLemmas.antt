-- Calls with one word after the other.
use Rattle.std.proofs.Common.{◌≡◌, ℕ, List, [], ◌∷◌, ◌++◌, length, map, refl, sym, arith}
use Rattle.bitvec_span.specs.Each.{IsCalledWith}

module _ {F W : Type 0} (number : W → ℕ) (step : F → W → F → Type 0) where
  -- a function that is called with some numbers' words, and then with others', is called with all of them
  pub called_on : (xs ys : List ℕ) (first between last : F) → IsCalledWith number step xs first between → IsCalledWith number step ys between last → IsCalledWith number step (xs ++ ys) first last
  called_on [] ys first between last before behind = rw before behind
  called_on (x ∷ xs) ys first between last before behind = (before.0, before.1, called_on xs ys before.0 between last before.2 behind)

  -- calls with no word leave the function as it is
  pub called_none : (value : ℕ → ℕ) (words : List W) (first : F) → length words ≡ 0 → IsCalledWith number step (map value (map number words)) first first
  called_none value [] first none = refl
  called_none value (word ∷ words) first none = absurd (omega arith)

  -- a call with the first word, and then calls with the others
  pub called_first : (value : ℕ → ℕ) (words more : List W) (word : W) (first next last : F) → words ≡ word ∷ more → value (number word) ≡ number word → step first word next
      → IsCalledWith number step (map value (map number more)) next last → IsCalledWith number step (map value (map number words)) first last
  called_first value words more word first next last is same met behind = rw is (next, (word, sym same, met), behind)
