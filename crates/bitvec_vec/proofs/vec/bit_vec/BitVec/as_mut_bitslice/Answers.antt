use Rattle.std.proofs.Common.{◌∙◌, map, sym, ap}
use Rattle.std.specs.Vec.{with_items}
use Rattle.bitvec.specs.Span.{front_span}
use Rattle.bitvec_slice.specs.BitSliceMut.{lent_memory, lent_span}
use Rattle.bitvec_vec.proofs.FrontLemmas.{length-front}
use Rattle.bitvec_vec.proofs.LendLemmas.{same-vec}
use Rattle.bitvec_vec.proofs.VecLemmas.{front-shown}
use Rattle.bitvec_vec.proofs.vec.bit_vec.BitVec.as_mut_bitslice.Goals as goal

pub returns : goal.returns
returns g c =
    let width = g.R.BitRegister.BITS in
    let at = g.O.BitAt.at_of in
    let number = g.R.BitRegister.number in
    let vec = c.args.self.now in
    let slice = c.new_unchecked.result in
    let is = c.new_unchecked.ensures.span ∙ c.span_of_front.ensures.span in
    let out = c.new_unchecked.ensures.memory ∙ c.as_mut_slice.ensures.value in (
      (sym c.new_unchecked.ensures.reference, λ w. same-vec vec (with_items vec.words w) _ _ _ _),
      record {
        writes_back = tt;
        span = is ∙ ap front_span (sym (length-front width at vec.len (map number vec.words.items)));
        bits = front-shown width at number vec.len vec.words.items (lent_memory slice).now (lent_span slice) is out;
      },
    )
