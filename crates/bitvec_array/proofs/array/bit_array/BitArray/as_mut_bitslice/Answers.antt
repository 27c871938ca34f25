use Rattle.std.proofs.Common.{◌∙◌, sym}
use Rattle.bitvec_slice.specs.BitSliceMut.{lent_memory, lent_span}
use Rattle.bitvec_array.proofs.ArrayLemmas.{bits-shown}
use Rattle.bitvec_array.proofs.SameArray.{same-words}
use Rattle.bitvec_array.proofs.array.bit_array.BitArray.as_mut_bitslice.Goals as goal

pub returns : goal.returns
returns g c =
    let array = c.args.self.now in
    let slice = c.new_unchecked.result in
    let is = c.new_unchecked.ensures.span ∙ c.span_of_all.ensures.span in (
      (sym c.new_unchecked.ensures.reference, λ w. same-words array w _ _),
      record {
        writes_back = tt;
        span = is;
        bits = bits-shown g.O.BitAt.at_of g.row.N (lent_span slice) is array.words (lent_memory slice).now c.new_unchecked.ensures.memory;
      },
    )
