use Rattle.std.proofs.Common.{rules, subst}
use Rattle.bitvec.specs.BitSpan.{span_of}
use Rattle.bitvec.specs.Span.{Span}
use Rattle.bitvec_slice.proofs.LentLemmas.{lent_edit}
use Rattle.bitvec_slice.specs.BitSliceMut.{lent_bits, BecomesBits}
use Rattle.bitvec_slice.specs.Words.{with_digits}
use Rattle.bitvec_stream.proofs.writer.memory.put_word.Goals as goal

pub returns : goal.returns
returns g c =
    let bits = g.R.BitRegister.BITS in
    let at = g.O.BitAt.at_of in
    let word = g.R.BitRegister.number c.args.word in
    let slice = c.new_unchecked-slice.result in
    let last = c.set_whole_word.new.self in
    let edit = subst (λ (s : Span). BecomesBits slice last (with_digits bits at s.head (lent_bits slice) c.args.k word)) c.new_unchecked-slice.ensures.span c.set_whole_word.ensures.bits in
    lent_edit slice last (span_of c.args.span) c.args.memory.now _ (λ us. with_digits bits at (span_of c.args.span).head us c.args.k word) c.new_unchecked-slice.ensures.span c.new_unchecked-slice.ensures.memory (search rules) edit
