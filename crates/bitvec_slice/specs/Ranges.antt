-- Lists of truth values with a stretch replaced.
use Rattle.std.specs.Prelude.{◌≡◌, ◌⊎◌, ℕ, ◌-◌, ◌<◌, ◌≤◌, ◌&&◌, Bool, false, List, ◌++◌, length, take, drop, replicate, slice_range}
use Rattle.bitvec.specs.Memory.{zip_with}
use Rattle.bitvec.specs.Span.{Span, BecomesList, element}

-- a list with others in place of its elements from element `from` to before element `to`
abbrev pub with_range : List Bool → ℕ → ℕ → List Bool → List Bool
with_range xs from to ys = take from xs ++ ys ++ drop to xs

-- each element of a list that lies before element `from`, or is element `to` or behind it, is as before
abbrev pub KeepsBeside : ℕ → ℕ → List Bool → List Bool → Type 0
KeepsBeside from to old new = (j : ℕ) → (j < from) ⊎ (to ≤ j) → element new j ≡ element old j

-- each stretch of a list that ends at element `from` or before it, or begins at element `to` or behind it, is as before
abbrev pub KeepsStretches : ℕ → ℕ → List Bool → List Bool → Type 0
KeepsStretches from to old new = (low high : ℕ) → (high ≤ from) ⊎ (to ≤ low) → slice_range new low high ≡ slice_range old low high

-- An edit of the list of one span in a memory is an edit of a range of the list of another: that of its elements from number
-- `from` to before number `to`.
abbrev pub EditsRangeIn : ℕ → (ℕ → ℕ) → (part whole : Span) → List ℕ → List Bool → ℕ → ℕ → Type 0
EditsRangeIn bits at part whole words xs from to =
    (new : List ℕ) (ys : List Bool) → BecomesList bits at part words new ys → BecomesList bits at whole words new (with_range xs from to ys)

-- a list with what a combination makes of its elements and another's, as far as both go, and its own behind them
abbrev pub with_common : (Bool → Bool → Bool) → List Bool → List Bool → List Bool
with_common of xs ys = zip_with of xs ys ++ drop (length ys) xs

-- the elements of a list that another has too, as far as that goes, and false behind it
abbrev pub only_common : List Bool → List Bool → List Bool
only_common xs ys = zip_with (λ t s. t && s) xs ys ++ replicate (length xs - length ys) false
