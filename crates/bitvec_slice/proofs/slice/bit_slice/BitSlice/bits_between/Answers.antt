use Rattle.std.proofs.Common.{map, length}
use Rattle.bitvec.proofs.BecomesLemmas.{fits-numbers}
use Rattle.bitvec.proofs.PartLemmas.{length-list_of}
use Rattle.bitvec.specs.BitSpan.{span_of}
use Rattle.bitvec_slice.specs.BitSlice.{slice_memory, slice_span}
use Rattle.bitvec_slice.proofs.slice.bit_slice.BitSlice.bits_between.Goals as goal

pub invariant_of-result : goal.invariant_of-result
invariant_of-result g c = record { fits = c.range.ensures.fit (length (slice_memory c.args.self.now)) c.args.self.now.fits; many = length-list_of g.R.BitRegister.BITS g.O.BitAt.at_of (span_of c.range.result) }

pub returns-clause-bits : goal.returns-clause-bits
returns-clause-bits g c =
    let slice = c.args.self.now in
    let number = g.R.BitRegister.number in
    let memory = slice_memory slice in
    c.range.ensures.list g.O.BitAt.at_of (map number memory) (fits-numbers g.R.BitRegister.BITS (slice_span slice) number memory slice.fits)
