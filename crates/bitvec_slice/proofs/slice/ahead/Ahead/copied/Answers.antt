use Rattle.std.proofs.Common.{◌≡◌, ◌≤◌, ◌*◌}
use Rattle.std.specs.Coded.{le_prop}
use Rattle.std.proofs.Math.Nat.{ℕ_set}
use Rattle.bitvec_slice.specs.BitSlice.{slice_span, slice_len, slice_bits}
use Rattle.bitvec_slice.specs.Chosen.{IsChosen, chosen_end}
use Rattle.bitvec_slice.proofs.WordListLemmas.{chosen_prop}
use Rattle.bitvec_slice.proofs.slice.ahead.Ahead.copied.Goals as goal

pub returns : goal.returns
returns g c =
    let it = c.args.self.now in
    let bits = g.R.BitRegister.BITS in
    let number = g.R.BitRegister.number in
    let head = (slice_span it.slice).head in
    let upto = chosen_end it.end bits head (slice_len it.slice) it.word in
    let same : (h : it.end ≤ slice_len it.slice) (s : it.start ≡ it.word * bits) (o : it.next ≤ upto)
    (d : IsChosen bits g.O.BitAt.at_of head (slice_bits it.slice) it.word it.next upto it.bit (number it.left))
    → record it { inside = h; starts = s; ordered = o; chosen = d } ≡ it = λ h s o d i.
    record it { inside = le_prop h it.inside i; starts = ℕ_set it.start (it.word * bits) s it.starts i; ordered = le_prop o it.ordered i; chosen = chosen_prop d it.chosen i } in
    same _ _ _ _
