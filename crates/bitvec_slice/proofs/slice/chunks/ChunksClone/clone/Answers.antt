use Rattle.std.proofs.Common.{◌≡◌, ◌<◌, ap}
use Rattle.std.proofs.Math.Bridge.{le_prop}
use Rattle.bitvec_slice.proofs.slice.chunks.ChunksClone.clone.Goals as goal

pub returns : goal.returns
returns g c =
    let it = c.args.self.now in
    let same : (h : 0 < it.size) → record it { some = h } ≡ it = λ h. ap (λ (k : 0 < it.size). record it { some = k }) (le_prop h it.some) in
    record { cases = same _ }
