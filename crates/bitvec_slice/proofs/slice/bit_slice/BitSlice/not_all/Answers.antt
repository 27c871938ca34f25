use Rattle.std.proofs.Common.{◌≡◌, false, subst, sym, true, ◌↔◌}
use Rattle.bitvec.specs.Truths.{AllAre}
use Rattle.bitvec_slice.specs.BitSlice.{slice_bits}
use Rattle.bitvec_slice.proofs.FindLemmas.{first_shows}
use Rattle.bitvec_slice.proofs.slice.bit_slice.BitSlice.not_all.Goals as goal

pub returns : goal.returns
returns g c = subst (λ some. (some ≡ false) ↔ AllAre true (slice_bits c.args.self.now)) (sym c.is_some.ensures) (first_shows (slice_bits c.args.self.now) false c.first_zero.result c.first_zero.ensures)
