use Rattle.std.proofs.Common.{◌≡◌, map, ap, subst, ◌∙◌}
use Rattle.bitvec.specs.Span.{Span, list_of}
use Rattle.bitvec_slice.specs.SliceText.{digits_text, text_bits}
use Rattle.bitvec_slice.proofs.SliceTextLemmas.{digits_back}
use Rattle.bitvec_slice.proofs.slice.bit_slice_mut.BitSliceMut.copy_from_text.Goals as goal

pub returns-clause-text : goal.returns-clause-text
returns-clause-text g c =
    let text = c.as_bytes-digits.result.now in
    let new = map g.R.BitRegister.number c.put_digits.new.memory in
    let list = subst (λ (s : Span). list_of g.R.BitRegister.BITS g.O.BitAt.at_of s new ≡ text_bits text) c.span-span.ensures c.put_digits.ensures.list in
    ap digits_text list ∙ digits_back text c.in_default.ensures ∙ c.as_bytes-digits.ensures.value
