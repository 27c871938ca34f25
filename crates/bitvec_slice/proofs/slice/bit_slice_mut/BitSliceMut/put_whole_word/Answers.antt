use Rattle.std.proofs.Common.{◌%◌, ◌+◌, map, refl, sym, ap, subst, ◌∙◌, arith}
use Rattle.bitvec.specs.BitSpan.{span_of}
use Rattle.bitvec.specs.Digit.{digit}
use Rattle.bitvec.specs.Span.{Span, list_of}
use Rattle.bitvec_slice.specs.BitSliceMut.{lent_span, lent_words}
use Rattle.bitvec_slice.specs.Words.{HasWord, with_digits}
use Rattle.bitvec_slice.proofs.SpanEdits.{edit-named}
use Rattle.bitvec_slice.proofs.WholeWordLemmas.{whole_is_met, whole_mask}
use Rattle.bitvec_slice.proofs.slice.bit_slice_mut.BitSliceMut.put_whole_word.Goals as goal

pub put_word-requires-clause-met : goal.put_word-requires-clause-met
put_word-requires-clause-met g c =
    let width = g.R.BitRegister.BITS in
    whole_is_met width (span_of c.span-span.result) c.args.k (omega (arith, g.met.R.BitRegister.width_at_least_8)) (subst (λ (s : Span). HasWord width s c.args.k) (sym c.span-span.ensures) c.requires)

pub put_word-requires-clause-mask : goal.put_word-requires-clause-mask
put_word-requires-clause-mask g c =
    let width = g.R.BitRegister.BITS in
    let number = g.R.BitRegister.number in
    whole_mask width (span_of c.span-span.result) c.args.k (omega (arith, g.met.R.BitRegister.width_at_least_8)) (subst (λ (s : Span). HasWord width s c.args.k) (sym c.span-span.ensures) c.requires)
    g.O.BitAt.at_of (number c.ALL.result) g.met.O.BitOrder.one_to_one (ap number c.ALL.ensures ∙ g.met.R.BitRegister.all_is_greatest)

pub returns : goal.returns
returns g c =
    let width = g.R.BitRegister.BITS in
    let at = g.O.BitAt.at_of in
    let number = g.R.BitRegister.number in
    let span = lent_span c.args.self.now in
    let old = lent_words c.args.self.now in
    let new = map number c.put_word.new.memory in
    let w = number c.args.word in
    let bits = λ (s : Span). with_digits width at s.head (list_of width at s old) c.args.k w in
    let given = span_of c.span-span.result in
    let edit = edit-named width at given span old new bits c.span-span.ensures (c.put_word.ensures (λ j. digit w (at ((given.head + j) % width))) (λ j h e. refl)) in
    (edit.list, refl, refl, edit)
