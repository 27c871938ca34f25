use Rattle.std.proofs.Common.{sym}
use Rattle.bitvec.proofs.PartLemmas.{length-list_of}
use Rattle.bitvec_slice.specs.BitSliceMut.{lent_span, lent_words}
use Rattle.bitvec_slice.proofs.slice.bit_slice_mut.BitSliceMut.len.Goals as goal

pub returns-clause-list : goal.returns-clause-list
returns-clause-list g c =
    let slice = c.args.self.now in
    sym (length-list_of g.R.BitRegister.BITS g.O.BitAt.at_of (lent_span slice) (lent_words slice))
