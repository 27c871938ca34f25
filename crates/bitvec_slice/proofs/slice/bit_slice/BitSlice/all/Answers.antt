use Rattle.std.proofs.Common.{map, length}
use Rattle.std.proofs.lemmas.List.{length-map}
use Rattle.bitvec.specs.BitSpan.{span_of}
use Rattle.bitvec.proofs.PartLemmas.{length-list_of}
use Rattle.bitvec_slice.proofs.SlicePartLemmas.{list_of_whole}
use Rattle.bitvec_slice.proofs.slice.bit_slice.BitSlice.all.Goals as goal

pub invariant_of-result : goal.invariant_of-result
invariant_of-result g c = record { fits = c.in_ok-span.ensures.fits; many = length-list_of g.R.BitRegister.BITS g.O.BitAt.at_of (span_of c.in_ok-span.span) }

pub returns-clause-whole : goal.returns-clause-whole
returns-clause-whole g c = λ words. list_of_whole g.R.BitRegister.BITS g.O.BitAt.at_of (span_of c.in_ok-span.span) words (length c.args.memory.now) c.in_ok-span.ensures.span

pub returns-clause-bits : goal.returns-clause-bits
returns-clause-bits g c =
    let words = c.args.memory.now in
    list_of_whole g.R.BitRegister.BITS g.O.BitAt.at_of (span_of c.in_ok-span.span) (map g.R.BitRegister.number words) (length words) c.in_ok-span.ensures.span (length-map words g.R.BitRegister.number)
