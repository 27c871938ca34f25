use Rattle.std.proofs.Common.{◌≡◌, ◌-◌, ◌<◌, ◌≤◌}
use Rattle.std.proofs.Math.Bridge.{le_prop}
use Rattle.bitvec_slice.specs.BitSlice.{slice_len, slice_bits}
use Rattle.bitvec_stream.specs.Window.{Keeps}
use Rattle.bitvec_stream.proofs.KeepLemmas.{keeps_same}
use Rattle.bitvec_stream.proofs.reader.BitReaderClone.clone.Goals as goal

pub returns : goal.returns
returns g c =
    let it = c.args.self.now in
    let bits = g.R.BitRegister.BITS in
    let same : (a : it.loaded ≤ slice_len it.slice) (b : it.kept ≤ it.loaded) (d : it.kept < bits) (e : Keeps bits g.O.BitAt.at_of (slice_bits it.slice) (it.loaded - it.kept) it.kept (g.R.BitRegister.number it.window))
    → record it { within = a; behind = b; few = d; shown = e } ≡ it =
    λ a b d e i. record it {
      within = le_prop a it.within i;
      behind = le_prop b it.behind i;
      few = le_prop d it.few i;
      shown = keeps_same bits g.O.BitAt.at_of (slice_bits it.slice) (it.loaded - it.kept) it.kept (g.R.BitRegister.number it.window) e it.shown i;
    } in
    record { cases = same _ _ _ _ }
