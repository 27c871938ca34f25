use Rattle.std.proofs.Common.{map, sym, ◌∙◌}
use Rattle.bitvec.proofs.PartLemmas.{length-list_of}
use Rattle.bitvec_slice.specs.BitSlice.{slice_memory, slice_span}
use Rattle.bitvec_slice.proofs.slice.bit_slice.BitSlice.len.Goals as goal

pub returns-clause-list : goal.returns-clause-list
returns-clause-list g c =
    let slice = c.args.self.now in
    c.len.ensures ∙ sym (length-list_of g.R.BitRegister.BITS g.O.BitAt.at_of (slice_span slice) (map g.R.BitRegister.number (slice_memory slice)))
