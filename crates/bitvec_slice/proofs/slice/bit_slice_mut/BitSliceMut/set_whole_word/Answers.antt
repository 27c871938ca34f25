use Rattle.std.proofs.Common.{ap, ◌∙◌, arith}
use Rattle.bitvec.specs.Span.{element}
use Rattle.bitvec_slice.specs.BitSliceMut.{lent_span, lent_words, lent_bits}
use Rattle.bitvec_slice.proofs.WholeWordLemmas.{put_digit}
use Rattle.bitvec_slice.proofs.slice.bit_slice_mut.BitSliceMut.set_whole_word.Goals as goal

pub returns-clause-digits : goal.returns-clause-digits
returns-clause-digits g c = λ j h same.
    let slice = c.args.self.now in
    let many = slice.many (lent_words slice) in
    ap (λ xs. element xs j) c.put_whole_word.ensures.0
    ∙ put_digit g.R.BitRegister.BITS g.O.BitAt.at_of (lent_span slice).head (lent_bits slice) c.args.k (g.R.BitRegister.number c.args.word) j (omega (arith, h, many)) same
