use Rattle.std.proofs.Common.{ℕ, Bool, List, length, map, ap, sym, ◌∙◌, arith}
use Rattle.bitvec.specs.BitSpan.{span_of}
use Rattle.bitvec.specs.Span.{list_of}
use Rattle.bitvec.proofs.BecomesLemmas.{becomes-same}
use Rattle.bitvec.proofs.PartLemmas.{length-list_of}
use Rattle.bitvec_slice.specs.Field.{field_number, field_list}
use Rattle.bitvec_slice.proofs.FieldStoreLemmas.{stored_loads}
use Rattle.bitvec_slice.proofs.field.store.Goals as goal

pub store_digits-requires-clause-small : goal.store_digits-requires-clause-small
store_digits-requires-clause-small g c =
    omega (arith, c.requires.small, length-list_of g.R.BitRegister.BITS g.O.BitAt.at_of (span_of c.args.span) (map g.R.BitRegister.number c.args.memory.now))

pub returns-clause-stored : goal.returns-clause-stored
returns-clause-stored g c =
    let width = g.R.BitRegister.BITS in
    let at = g.O.BitAt.at_of in
    let span = c.args.span in
    let old = map g.R.BitRegister.number c.args.memory.now in
    let xs = λ (n : ℕ). field_list c.args.big width g.O.Sequential.RISES span.head n (g.N.BitRegister.number c.args.value) in
    becomes-same width at (span_of span) old (map g.R.BitRegister.number c.store_digits.new.memory) _ _ (ap xs (sym (length-list_of width at (span_of span) old))) c.store_digits.ensures

pub returns-clause-loaded : goal.returns-clause-loaded
returns-clause-loaded g c =
    let width = g.R.BitRegister.BITS in
    let rises = g.O.Sequential.RISES in
    let span = c.args.span in
    let eight = g.met.R.BitRegister.width_at_least_8 in
    let first = list_of width g.O.BitAt.at_of (span_of span) (map g.R.BitRegister.number c.args.memory.now) in
    ap (λ (ys : List Bool). field_number c.args.big width rises span.head ys) (returns-clause-stored g c).list
    ∙ stored_loads c.args.big rises width span.head (length first) (g.N.BitRegister.number c.args.value) (omega (arith, eight)) (omega (arith, span.in_word, eight))
