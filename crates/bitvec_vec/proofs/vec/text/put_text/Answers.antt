use Rattle.std.proofs.Common.{◌≡◌, ◌∙◌, rules, Bool, List, length, ap, sym, subst}
use Rattle.std.specs.Prelude.{IfErr}
use Rattle.bitvec.specs.BitSpan.{span_of}
use Rattle.bitvec.specs.Span.{Span}
use Rattle.bitvec_slice.specs.BitSliceMut.{lent_span, lent_bits, BecomesBits}
use Rattle.bitvec_slice.specs.SliceText.{digits_text, text_bits}
use Rattle.bitvec_slice.specs.TextError.{IsRefusal}
use Rattle.bitvec_vec.proofs.VecLemmas.{front-fits, front-lent, if_ok_both}
use Rattle.bitvec_vec.proofs.vec.text.put_text.Goals as goal

pub new_unchecked-bits-requires : goal.new_unchecked-bits-requires
new_unchecked-bits-requires g c =
    front-fits g.R.BitRegister.BITS c.args.len (length c.args.words.now) (span_of c.span_of_front-span.result) c.span_of_front-span.ensures.span c.requires.room

pub returns-clause-bits : goal.returns-clause-bits
returns-clause-bits g c =
    let slice = c.new_unchecked-bits.result in
    let now = c.copy_from_text.new.self in
    let theirs = text_bits c.args.text.now in
    if_ok_both c.copy_from_text.result
    (λ (edit : BecomesBits slice now theirs) (also : BecomesBits slice now theirs).
    front-lent g.R.BitRegister.BITS g.O.BitAt.at_of g.R.BitRegister.number c.args.len c.args.words.now slice.memory.now now.memory.now _ (lent_span slice)
    (λ (xs : List Bool). theirs) (c.new_unchecked-bits.ensures.span ∙ c.span_of_front-span.ensures.span) c.new_unchecked-bits.ensures.memory (search rules) edit.3)
    c.copy_from_text.ensures.bits c.copy_from_text.ensures.bits

pub returns-clause-text : goal.returns-clause-text
returns-clause-text g c =
    let slice = c.new_unchecked-bits.result in
    let now = c.copy_from_text.new.self in
    let theirs = text_bits c.args.text.now in
    if_ok_both c.copy_from_text.result
    (λ (edit : BecomesBits slice now theirs) (shown : digits_text (lent_bits now) ≡ c.args.text.now). ap digits_text (sym edit.0) ∙ shown)
    c.copy_from_text.ensures.bits c.copy_from_text.ensures.text

pub returns-clause-refused : goal.returns-clause-refused
returns-clause-refused g c =
    let is = c.new_unchecked-bits.ensures.span ∙ c.span_of_front-span.ensures.span in
    let len : (lent_span c.new_unchecked-bits.result).len ≡ c.args.len = ap (λ (s : Span). s.len) is in
    subst (λ n. IfErr c.copy_from_text.result (IsRefusal n c.args.text.now)) len c.copy_from_text.ensures.refused
