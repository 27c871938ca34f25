use Rattle.std.proofs.Common.{◌≤◌, ◌-◌, length, map, refl, ap, arith}
use Rattle.bitvec.proofs.MemoryLemmas.{length-tabulate}
use Rattle.bitvec_slice.specs.BitSliceMut.{lent_span, lent_words, lent_bits}
use Rattle.bitvec_slice.specs.Numbers.{digits_be}
use Rattle.bitvec_slice.proofs.DigitListLemmas.{number_be-range}
use Rattle.bitvec_slice.proofs.EditRangeLemmas.{range_edited}
use Rattle.bitvec_slice.proofs.slice.bit_slice_mut.BitSliceMut.store_falling_range.Goals as goal

pub returns : goal.returns
returns g c =
    let width = g.R.BitRegister.BITS in
    let slice = c.args.self.now in
    let old = lent_words slice in
    let new = map g.R.BitRegister.number c.store_falling.new.memory in
    let part = c.part-part.ensures in
    let value = g.N.BitRegister.number c.args.value in
    let count = c.args.to - c.args.from in
    let done = range_edited width g.O.BitAt.at_of (lent_span slice) old new c.args.from c.args.to _ (digits_be count value) (ap (λ n. digits_be n value) part.len)
    c.requires.ordered c.requires.inside (length-tabulate count _) (part.edits new _ c.store_falling.ensures) in
    let xs = lent_bits slice in
    let inside : c.args.to ≤ length xs = omega (arith, c.requires.inside, slice.many old) in
    record {
      bits = (done.0.list, refl, refl, done.0);
      loaded = number_be-range xs _ c.args.from c.args.to value c.requires.ordered inside done.0.list;
      beside = done.1;
    }
