use Rattle.std.proofs.Common.{◌≡◌, ◌+◌, ◌≤◌, ap, ◌∙◌}
use Rattle.std.proofs.Math.Bridge.{le_prop}
use Rattle.bitvec_slice.specs.BitSlice.{slice_span, slice_len}
use Rattle.bitvec_slice.proofs.slice.iter.IterClone.clone.Goals as goal

pub returns : goal.returns
returns g c =
    let it = c.args.self.now in
    let head = (slice_span it.slice).head in
    let same : (b : head ≤ it.next) (r : it.next ≤ it.end) (h : it.end ≤ head + slice_len it.slice) → record it { begins = b; rises = r; inside = h } ≡ it =
    λ b r h. ap (λ (k : head ≤ it.next). record it { begins = k; rises = r; inside = h }) (le_prop b it.begins)
    ∙ ap (λ (k : it.next ≤ it.end). record it { rises = k; inside = h }) (le_prop r it.rises)
    ∙ ap (λ (k : it.end ≤ head + slice_len it.slice). record it { inside = k }) (le_prop h it.inside) in
    record { cases = same _ _ _ }
