use Rattle.std.proofs.Common.{◌≡◌, ◌-◌, map, sym, ◌∙◌, arith}
use Rattle.bitvec.proofs.PartLemmas.{length-list_of}
use Rattle.bitvec_slice.specs.BitSlice.{slice_span}
use Rattle.bitvec_slice.specs.Iter.{iter_memory, iter_span}
use Rattle.bitvec_slice.proofs.slice.iter.IterExactSizeIterator.len.Goals as goal

pub returns-clause-value : goal.returns-clause-value
returns-clause-value g c =
    let it = c.args.self.now in
    let head = (slice_span it.slice).head in
    let count : it.end - it.next ≡ it.end - head - (it.next - head) = omega (arith, it.begins, it.rises) in
    count ∙ sym (length-list_of g.R.BitRegister.BITS g.O.BitAt.at_of (iter_span it) (map g.R.BitRegister.number (iter_memory it)))
