use Rattle.std.proofs.Common.{◌∙◌, Bool, List, ap, refl}
use Rattle.bitvec.specs.BitSpan.{span_of}
use Rattle.bitvec.specs.Span.{element}
use Rattle.bitvec_array.proofs.ArrayLemmas.{bits-shown}
use Rattle.bitvec_array.proofs.array.bit_array.BitArray.get_unchecked.Goals as goal

pub returns : goal.returns
returns g c =
    let words = c.args.self.now.words in
    c.read.ensures
    ∙ ap (λ (xs : List Bool). element xs c.args.i) (bits-shown g.O.BitAt.at_of g.row.N (span_of c.span_of_all.result) c.span_of_all.ensures.span words words refl)
