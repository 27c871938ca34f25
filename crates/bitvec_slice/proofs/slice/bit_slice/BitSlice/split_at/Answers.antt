use Rattle.std.proofs.Common.{map, length, arith}
use Rattle.bitvec.specs.BitSpan.{span_of}
use Rattle.bitvec.proofs.PartLemmas.{length-list_of}
use Rattle.bitvec_slice.specs.BitSlice.{slice_memory, slice_span}
use Rattle.bitvec_slice.proofs.SlicePartLemmas.{list_of-front, list_of-back}
use Rattle.bitvec_slice.proofs.slice.bit_slice.BitSlice.split_at.Goals as goal

pub split_at-requires : goal.split_at-requires
split_at-requires g c =
    let slice = c.args.self.now in
    let long = length-list_of g.R.BitRegister.BITS g.O.BitAt.at_of (slice_span slice) (map g.R.BitRegister.number (slice_memory slice)) in
    omega (arith, c.requires, long)

pub invariant_of-result : goal.invariant_of-result
invariant_of-result g c = record { fits = (c.split_at.ensures.fit (length (slice_memory c.args.self.now)) c.args.self.now.fits).0; many = length-list_of g.R.BitRegister.BITS g.O.BitAt.at_of (span_of c.split_at.result.0) }

pub invariant_of-result-2 : goal.invariant_of-result-2
invariant_of-result-2 g c = record { fits = (c.split_at.ensures.fit (length (slice_memory c.args.self.now)) c.args.self.now.fits).1; many = length-list_of g.R.BitRegister.BITS g.O.BitAt.at_of (span_of c.split_at.result.1) }

pub returns-clause-front : goal.returns-clause-front
returns-clause-front g c =
    let at = g.O.BitAt.at_of in
    let slice = c.args.self.now in
    let words = map g.R.BitRegister.number (slice_memory slice) in
    list_of-front g.R.BitRegister.BITS at (span_of c.split_at.result.0) (span_of c.split_at.result.1) (slice_span slice) words c.args.mid
    c.split_at.ensures.first (c.split_at.ensures.lists at words slice.fits.0)

pub returns-clause-back : goal.returns-clause-back
returns-clause-back g c =
    let at = g.O.BitAt.at_of in
    let slice = c.args.self.now in
    let words = map g.R.BitRegister.number (slice_memory slice) in
    list_of-back g.R.BitRegister.BITS at (span_of c.split_at.result.0) (span_of c.split_at.result.1) (slice_span slice) words c.args.mid
    c.split_at.ensures.first (c.split_at.ensures.lists at words slice.fits.0)
