-- Lists of truth values compared or combined element by element.
use Rattle.std.specs.Prelude.{◌≡◌, ℕ, ◌<◌, Bool, List, length}
use Rattle.bitvec.specs.Span.{element}

-- each element of a list is what f makes of those of two lists at its place
abbrev pub IsEach : (Bool → Bool → Bool) → List Bool → List Bool → List Bool → Type 0
IsEach f xs ys zs = (i : ℕ) → i < length xs → element zs i ≡ f (element xs i) (element ys i)

-- two lists have one length, and at each place the same element
abbrev pub AreSameBits : List Bool → List Bool → Type 0
AreSameBits xs ys = (length xs ≡ length ys) × ((i : ℕ) → i < length xs → element xs i ≡ element ys i)
