use Rattle.std.proofs.Common.{◌≡◌, ◌≤◌, ◌+◌, ◌-◌, ◌%◌, ◌^◌, false, length, map, refl, sym, ap, arith, ◌∙◌}
use Rattle.std.specs.Prelude.{slice_range}
use Rattle.bitvec.specs.BitSpan.{span_of}
use Rattle.bitvec.specs.Span.{list_of}
use Rattle.bitvec.proofs.MemoryLemmas.{length-tabulate}
use Rattle.bitvec.proofs.PartLemmas.{length-list_of}
use Rattle.bitvec_slice.specs.BitSliceMut.{lent_span, lent_words}
use Rattle.bitvec_slice.specs.Field.{field_number, field_list}
use Rattle.bitvec_slice.proofs.EditRangeLemmas.{range_within, range_edited}
use Rattle.bitvec_slice.proofs.slice.bit_slice_mut.BitSliceMut.store_le_range.Goals as goal

pub store-requires-clause-small : goal.store-requires-clause-small
store-requires-clause-small g c =
    omega (arith, c.requires.small, c.part-part.ensures.len, length-list_of g.R.BitRegister.BITS g.O.BitAt.at_of (span_of c.part-part.result) (lent_words c.args.self.now))

pub returns : goal.returns
returns g c =
    let width = g.R.BitRegister.BITS in
    let at = g.O.BitAt.at_of in
    let slice = c.args.self.now in
    let span = lent_span slice in
    let old = lent_words slice in
    let new = map g.R.BitRegister.number c.store.new.memory in
    let xs = list_of width at span old in
    let part = c.part-part.ensures in
    let rises = g.O.Sequential.RISES in
    let value = g.N.BitRegister.number c.args.value in
    let from = c.args.from in
    let to = c.args.to in
    let head = (span.head + from) % width in
    let many : length (list_of width at (span_of c.part-part.result) old) ≡ to - from = length-list_of width at (span_of c.part-part.result) old ∙ part.len in
    let ys = field_list false width rises head (to - from) value in
    let given = span_of c.part-part.result in
    let same : field_list false width rises given.head (length (list_of width at given old)) value ≡ ys = λ m. field_list false width rises (part.head m) (many m) value in
    let long : length ys ≡ to - from = length-tabulate (to - from) _ in
    let done = range_edited width at span old new from to _ ys same c.requires.ordered c.requires.inside long (part.edits new _ c.store.ensures.stored) in
    let whole : to ≤ length xs = omega (arith, c.requires.inside, slice.many old) in
    let within = ap (λ us. slice_range us from to) done.0.list ∙ range_within xs ys from to c.requires.ordered whole long in
    let shown = within ∙ sym same ∙ sym c.store.ensures.stored.list in
    record {
      stored = (done.0.list, refl, refl, done.0);
      loaded = ap (field_number false width rises head) shown
          ∙ ap (λ h. field_number false width rises h (list_of width at (span_of c.part-part.result) new)) (sym part.head)
          ∙ c.store.ensures.loaded
          ∙ ap (λ n. value % 2 ^ n) many;
      beside = done.1;
    }
