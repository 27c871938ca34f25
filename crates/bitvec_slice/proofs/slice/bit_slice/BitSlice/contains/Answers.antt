use Rattle.std.proofs.Common.{◌≡◌, ◌↔◌, ℕ, false, subst, sym}
use Rattle.bitvec_slice.specs.BitSlice.{slice_bits}
use Rattle.bitvec_slice.specs.Patterns.{HasAt}
use Rattle.bitvec_slice.proofs.PatternLemmas.{least_shows}
use Rattle.bitvec_slice.proofs.slice.bit_slice.BitSlice.contains.Goals as goal

pub returns : goal.returns
returns g c =
    let IsHere = HasAt (slice_bits c.args.self.now) (slice_bits c.args.pattern.now) in
    subst (λ some. (some ≡ false) ↔ ((i : ℕ) → ¬ IsHere i)) (sym c.is_some.ensures) (least_shows IsHere c.find.result c.find.ensures)
