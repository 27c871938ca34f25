use Rattle.std.proofs.Common.{◌≡◌, map, ap, ◌∙◌, refl, sym, ℕ, arith}
use Rattle.std.proofs.lemmas.List.{length-map}
use Rattle.bitvec.specs.BitSpan.{span_of}
use Rattle.bitvec.specs.Place.{words_met}
use Rattle.bitvec.specs.Span.{list_of}
use Rattle.bitvec.proofs.BecomesLemmas.{becomes, numbers-many}
use Rattle.bitvec.proofs.PartLemmas.{length-list_of}
use Rattle.bitvec_slice.specs.Field.{field_list}
use Rattle.bitvec_slice.proofs.FieldStoreLemmas.{stored_before, stored_none, stored_more, stored_all, length-field_list}
use Rattle.bitvec_slice.proofs.field.store_words.Goals as goal

pub loop-k-init : goal.loop-k-init
loop-k-init g c =
    let width = g.R.BitRegister.BITS in
    let span = c.args.span in
    let old = map g.R.BitRegister.number c.args.memory.now in
    record {
      list = stored_none width span.head span.len (field_list c.args.big width g.O.Sequential.RISES span.head span.len (g.N.BitRegister.number c.args.value)) (list_of width g.O.BitAt.at_of (span_of span) old) (length-list_of width g.O.BitAt.at_of (span_of span) old);
      others = λ place out. refl;
      words = refl;
    }

pub loop-k-preserved : goal.loop-k-preserved
loop-k-preserved g c =
    let width = g.R.BitRegister.BITS in
    let at = g.O.BitAt.at_of in
    let number = g.R.BitRegister.number in
    let span = c.args.span in
    let xs = field_list c.args.big width g.O.Sequential.RISES span.head span.len (g.N.BitRegister.number c.args.value) in
    let first = list_of width at (span_of span) (map number c.args.memory.now) in
    let old = map number c.loop-k.memory in
    let edit = c.store_part.ensures in
    record {
      list = edit.list ∙ stored_more width span.head span.len c.loop-k.k xs first (list_of width at (span_of span) old) c.loop-k.invariant.list;
      others = λ place out. edit.others place out ∙ c.loop-k.invariant.others place out;
      words = sym (length-map c.store_part.new.memory number) ∙ edit.words ∙ length-map c.loop-k.memory number ∙ c.loop-k.invariant.words;
    }

pub returns : goal.returns
returns g c =
    let width = g.R.BitRegister.BITS in
    let at = g.O.BitAt.at_of in
    let span = c.args.span in
    let value = g.N.BitRegister.number c.args.value in
    let first = list_of width at (span_of span) (map g.R.BitRegister.number c.args.memory.now) in
    let xs = field_list c.args.big width g.O.Sequential.RISES span.head span.len value in
    let all : c.loop-k.k ≡ words_met width span.head span.len = omega (arith, c.loop-k-test.false, c.loop-k.auto.k-end, c.elements-k-end.ensures.value) in
    becomes width at (span_of span) (map g.R.BitRegister.number c.args.memory.now) (map g.R.BitRegister.number c.loop-k.memory) _
    (c.loop-k.invariant.list
    ∙ ap (λ (k : ℕ). stored_before width span.head span.len k xs first) all
    ∙ stored_all width span.head span.len xs first (omega (arith, g.met.R.BitRegister.width_at_least_8)) (length-field_list c.args.big width g.O.Sequential.RISES span.head span.len value))
    c.loop-k.invariant.others (numbers-many g.R.BitRegister.number c.args.memory.now c.loop-k.memory c.loop-k.invariant.words)
