use Rattle.std.proofs.Common.{◌≡◌, false, subst, sym, true, ◌↔◌}
use Rattle.bitvec.specs.Truths.{AllAre}
use Rattle.bitvec_slice.specs.BitSlice.{slice_bits}
use Rattle.bitvec_slice.proofs.FindLemmas.{first_shows}
use Rattle.bitvec_slice.proofs.slice.bit_slice.BitSlice.any.Goals as goal

pub returns : goal.returns
returns g c = subst (λ some. (some ≡ false) ↔ AllAre false (slice_bits c.args.self.now)) (sym c.is_some.ensures) (first_shows (slice_bits c.args.self.now) true c.first_one.result c.first_one.ensures)
