use Rattle.std.proofs.Common.{map, sym, ◌∙◌, arith}
use Rattle.bitvec.specs.BitSpan.{span_of}
use Rattle.bitvec.specs.Span.{list_of}
use Rattle.bitvec.proofs.BecomesLemmas.{becomes-same, becomes-then}
use Rattle.bitvec.proofs.PartLemmas.{length-list_of}
use Rattle.bitvec_slice.specs.Field.{field_list}
use Rattle.bitvec_slice.proofs.FieldStoreLemmas.{one_stored, two_stored, length-field_list}
use Rattle.bitvec_slice.proofs.field.store_digits.Goals as goal

pub returns-then-elements-eq1 : goal.returns-then-elements-eq1
returns-then-elements-eq1 g c =
    let width = g.R.BitRegister.BITS in
    let at = g.O.BitAt.at_of in
    let span = c.args.span in
    let old = map g.R.BitRegister.number c.args.memory.now in
    let xs = field_list c.args.big width g.O.Sequential.RISES span.head span.len (g.N.BitRegister.number c.args.value) in
    let first = list_of width at (span_of span) old in
    becomes-same width at (span_of span) old (map g.R.BitRegister.number c.store_part.new.memory) _ xs
    (one_stored width span.head span.len xs first (omega (arith, g.met.R.BitRegister.width_at_least_8)) (length-field_list c.args.big width g.O.Sequential.RISES span.head span.len (g.N.BitRegister.number c.args.value))
    (length-list_of width at (span_of span) old) (sym c.if-elements-eq1.true ∙ c.elements-elements.ensures.value)) c.store_part.ensures

pub returns-then-elements-eq2 : goal.returns-then-elements-eq2
returns-then-elements-eq2 g c =
    let width = g.R.BitRegister.BITS in
    let at = g.O.BitAt.at_of in
    let number = g.R.BitRegister.number in
    let span = c.args.span in
    let old = map number c.args.memory.now in
    let mid = map number c.store_part-then-elements-eq2.new.memory in
    let new = map number c.store_part-then-elements-eq2-2.new.memory in
    let xs = field_list c.args.big width g.O.Sequential.RISES span.head span.len (g.N.BitRegister.number c.args.value) in
    let first = list_of width at (span_of span) old in
    becomes-same width at (span_of span) old new _ xs
    (two_stored width span.head span.len xs first (list_of width at (span_of span) mid) (omega (arith, g.met.R.BitRegister.width_at_least_8)) (length-field_list c.args.big width g.O.Sequential.RISES span.head span.len (g.N.BitRegister.number c.args.value))
    (length-list_of width at (span_of span) old) c.store_part-then-elements-eq2.ensures.list (sym c.if-elements-eq2.true ∙ c.elements-elements.ensures.value))
    (becomes-then width at (span_of span) old mid new _ _ c.store_part-then-elements-eq2.ensures c.store_part-then-elements-eq2-2.ensures)
