use Rattle.std.proofs.Common.{◌≡◌, ◌<◌, ◌≤◌, false}
use Rattle.std.proofs.Math.Bridge.{le_prop}
use mathlib.Core.Bool.{Bool-set}
use Rattle.bitvec.specs.Span.{element}
use Rattle.bitvec_slice.specs.BitSlice.{slice_len, slice_bits}
use Rattle.bitvec_slice.proofs.slice.runs.IterRunsClone.clone.Goals as goal

pub returns : goal.returns
returns g c =
    let it = c.args.self.now in
    let same : (h : it.next ≤ slice_len it.slice) (e : 0 < it.next → element (slice_bits it.slice) it.next ≡ false) → record it { inside = h; edge = e } ≡ it = λ h e i.
    record it { inside = le_prop h it.inside i; edge = λ some. Bool-set (element (slice_bits it.slice) it.next) false (e some) (it.edge some) i } in
    record { cases = same _ _ }
