-- That a function was called with one word after the other.
use Rattle.std.specs.Prelude.{◌≡◌, ℕ, List}
use Rattle.std.specs.List.{FoldsTo}

-- calls with words of these numbers, in turn, take a function from one state to another, where `step` says what one call does
abbrev pub IsCalledWith : {F W : Type 0} → (W → ℕ) → (F → W → F → Type 0) → List ℕ → F → F → Type 0
IsCalledWith {F} {W} number step numbers first last = FoldsTo (λ p n q. (word : W) × (number word ≡ n) × step p word q) first numbers last
