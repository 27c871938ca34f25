use Rattle.std.proofs.Common.{◌≡◌, ◌&&◌, ◌↔◌, false, true, subst, sym}
use Rattle.bitvec.specs.Memory.{zip_with}
use Rattle.bitvec.specs.Truths.{AllAre}
use Rattle.bitvec_slice.specs.BitSlice.{slice_bits}
use Rattle.bitvec_slice.proofs.FindLemmas.{first_shows}
use Rattle.bitvec_slice.proofs.slice.bit_slice.BitSlice.intersects.Goals as goal

pub returns : goal.returns
returns g c =
    let both = zip_with (λ x y. x && y) (slice_bits c.args.self.now) (slice_bits c.args.other.now) in
    subst (λ some. (some ≡ false) ↔ AllAre false both) (sym c.is_some.ensures) (first_shows both true c.first_and.result c.first_and.ensures)
