use Rattle.std.proofs.Common.{◌<◌, ap, ◌∙◌, subst, sym, arith}
use Rattle.bitvec_ptr.proofs.PlaceOrder.{bit_below}
use Rattle.bitvec_span.specs.Span.{Span, Fits, AreDisjoint, BecomesList, list_of, span_from}
use Rattle.bitvec_span.specs.BitSpan.{span_of}
use Rattle.bitvec_span.proofs.BecomesLemmas.{range-list, range-fits, range-apart, range-becomes}
use Rattle.bitvec_span.proofs.ptr.span.BitSpan.range.Goals as goal

pub returns-clause-fit : goal.returns-clause-fit
returns-clause-fit g c = λ words fits.
    let width = g.R.BitRegister.BITS in
    let span = span_of c.args.self in
    let in_head = bit_below width c.args.self.head g.met.R.BitRegister.width_at_least_8 c.args.self.in_word in
    subst (λ (s : Span). Fits width s words) (sym (c.bits_from.ensures ∙ ap (λ (s : Span). span_from width s c.args.from) c.bits_before.ensures)) (range-fits width span c.args.from c.args.to words in_head fits c.requires.ordered c.requires.inside)

pub returns-clause-list : goal.returns-clause-list
returns-clause-list g c = λ at words fits.
    let width = g.R.BitRegister.BITS in
    let span = span_of c.args.self in
    let in_head = bit_below width c.args.self.head g.met.R.BitRegister.width_at_least_8 c.args.self.in_word in
    ap (λ (s : Span). list_of width at s words) (c.bits_from.ensures ∙ ap (λ (s : Span). span_from width s c.args.from) c.bits_before.ensures) ∙ range-list width at span c.args.from c.args.to words in_head fits c.requires.ordered c.requires.inside

pub returns-clause-edits : goal.returns-clause-edits
returns-clause-edits g c = λ at old new xs fits edit.
    let width = g.R.BitRegister.BITS in
    let span = span_of c.args.self in
    let in_head = bit_below width c.args.self.head g.met.R.BitRegister.width_at_least_8 c.args.self.in_word in
    range-becomes width at span c.args.from c.args.to old in_head fits c.requires.ordered c.requires.inside new xs
    (subst (λ (s : Span). BecomesList width at s old new xs) (c.bits_from.ensures ∙ ap (λ (s : Span). span_from width s c.args.from) c.bits_before.ensures) edit)

pub returns-clause-apart : goal.returns-clause-apart
returns-clause-apart g c = λ other apart.
    let width = g.R.BitRegister.BITS in
    let some : 0 < width = omega (arith, g.met.R.BitRegister.width_at_least_8) in
    subst (λ (s : Span). AreDisjoint width s other) (sym (c.bits_from.ensures ∙ ap (λ (s : Span). span_from width s c.args.from) c.bits_before.ensures))
    (range-apart width (span_of c.args.self) c.args.from c.args.to some c.requires.ordered c.requires.inside other apart)
