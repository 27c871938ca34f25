use Rattle.std.proofs.Common.{◌-◌, length, map, ap, ◌∙◌}
use Rattle.bitvec.specs.Span.{Span, list_of, span_range}
use Rattle.bitvec.proofs.PartLemmas.{length-list_of}
use Rattle.bitvec.specs.BitSpan.{span_of}
use Rattle.bitvec_slice.specs.BitSlice.{slice_memory, slice_span}
use Rattle.bitvec_slice.proofs.slice.iter.Iter.as_bitslice.Goals as goal

pub invariant_of-result : goal.invariant_of-result
invariant_of-result g c = let slice = c.args.self.now.slice in record { fits = c.range.ensures.fit (length (slice_memory slice)) slice.fits; many = length-list_of g.R.BitRegister.BITS g.O.BitAt.at_of (span_of c.range.result) }

pub returns-clause-span : goal.returns-clause-span
returns-clause-span g c =
    let it = c.args.self.now in
    c.range.ensures.span ∙ ap (λ h. span_range g.R.BitRegister.BITS (slice_span it.slice) (it.next - h) (it.end - h)) c.head-head.ensures

pub returns-clause-bits : goal.returns-clause-bits
returns-clause-bits g c = ap (λ (s : Span). list_of g.R.BitRegister.BITS g.O.BitAt.at_of s (map g.R.BitRegister.number (slice_memory c.args.self.now.slice))) (returns-clause-span g c)
