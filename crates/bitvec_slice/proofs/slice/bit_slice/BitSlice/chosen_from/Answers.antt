use Rattle.std.proofs.Common.{◌≡◌, ◌+◌, ◌*◌, ◌<◌, ◌&&◌, Some, None, map, sym, ap, subst, ◌∙◌, arith}
use Rattle.bitvec.specs.Digit.{digit}
use Rattle.bitvec.specs.Order.{IsMaskOf}
use Rattle.bitvec_slice.specs.BitSlice.{slice_memory, slice_span}
use Rattle.bitvec_slice.proofs.WordListLemmas.{IsMaskedFrom, masked_from}
use Rattle.bitvec_slice.proofs.slice.bit_slice.BitSlice.chosen_from.Goals as goal

pub returns : goal.returns
returns g c =
    let slice = c.args.self.now in
    let bits = g.R.BitRegister.BITS in
    let at = g.O.BitAt.at_of in
    let number = g.R.BitRegister.number in
    let span = slice_span slice in
    let memory = slice_memory slice in
    let k = c.args.k in
    let bit = c.args.bit in
    let low = c.new_unchecked.result in
    let mask = c.mask-mask.result in
    let row : k * c.bits_of.result ≡ k * bits = ap (λ b. k * b) c.bits_of.ensures.value in
    let start : k * bits + low ≡ span.head + c.args.from = omega (arith, row, c.head.ensures, c.new_unchecked.ensures, c.requires.start) in
    let inside : low < bits = omega (arith, start, c.requires.end) in
    let masked : IsMaskOf bits at low bits mask = subst (λ n. IsMaskOf bits at low bits n) (sym c.mask-mask.ensures) (g.met.O.BitOrder.masks.sets (Some low) None inside (omega arith) (omega (arith, inside))) in
    let both : IsMaskedFrom bits at span (map number memory) k c.args.from bit low mask (number c.turned_word.result) (number c.and.result) =
    record {
      law = g.met.O.BitOrder.one_to_one;
      start = start;
      masked = masked;
      turns = c.turned_word.ensures;
      joins = λ p small. c.and.ensures.digits p small ∙ ap (λ n. digit (number c.turned_word.result) p && digit n p) c.into_inner.ensures.value;
    } in
    masked_from both
