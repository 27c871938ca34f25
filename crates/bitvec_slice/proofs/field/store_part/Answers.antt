use Rattle.std.proofs.Common.{false, sym, ◌∙◌}
use Rattle.bitvec.specs.Digit.{digit}
use Rattle.bitvec.specs.Span.{element}
use Rattle.bitvec.proofs.MemoryLemmas.{get_or-tabulate}
use Rattle.bitvec_slice.specs.Field.{digit_place, field_list}
use Rattle.bitvec_slice.proofs.field.store_part.Goals as goal

pub returns : goal.returns
returns g c =
    let width = g.R.BitRegister.BITS in
    let span = c.args.span in
    let value = g.N.BitRegister.number c.args.value in
    c.put_word.ensures (element (field_list c.args.big width g.O.Sequential.RISES span.head span.len value))
    (λ j inside word. c.word_digits-word.ensures j inside word ∙ sym (get_or-tabulate span.len (λ i. digit value (digit_place c.args.big width g.O.Sequential.RISES span.head span.len i)) j false inside))
