use Rattle.std.proofs.Common.{◌≡◌, ◌<◌, ◌≤◌, true, length}
use Rattle.std.proofs.Math.Bridge.{le_prop}
use mathlib.Core.Bool.{Bool-set}
use Rattle.bitvec.specs.Span.{element}
use Rattle.bitvec_slice.specs.BitSlice.{slice_bits}
use Rattle.freemap.proofs.runs.FreeRunsClone.clone.Goals as goal

pub returns : goal.returns
returns g c =
    let it = c.args.self.now in
    let used = slice_bits it.bits in
    let same : (h : it.next ≤ length used) (e : 0 < it.next → it.next < length used → element used it.next ≡ true) → record it { inside = h; edge = e } ≡ it = λ h e i.
    record it { inside = le_prop h it.inside i; edge = λ some there. Bool-set (element used it.next) true (e some there) (it.edge some there) i } in
    record { cases = same _ _ }
