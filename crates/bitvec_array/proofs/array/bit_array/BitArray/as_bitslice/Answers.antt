use Rattle.std.proofs.Common.{◌∙◌, refl}
use Rattle.bitvec.specs.BitSpan.{span_of}
use Rattle.bitvec_array.proofs.ArrayLemmas.{bits-shown}
use Rattle.bitvec_array.proofs.array.bit_array.BitArray.as_bitslice.Goals as goal

pub returns-clause-bits : goal.returns-clause-bits
returns-clause-bits g c =
    let words = c.args.self.now.words in
    c.new_unchecked.ensures.bits
    ∙ bits-shown g.O.BitAt.at_of g.row.N (span_of c.span_of_all.result) c.span_of_all.ensures.span words words refl
