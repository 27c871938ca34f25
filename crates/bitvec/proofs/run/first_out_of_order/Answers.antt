use Rattle.std.proofs.Common.{◌≡◌, ◌+◌, ◌*◌, ◌<◌, ◌∙◌, length, ap, subst, sym, refl, arith, rules}
use Rattle.std.specs.Prelude.{nat_abs}
use Rattle.std.proofs.lemmas.Int.{ints}
use Rattle.std.proofs.lemmas.Option.{slice_get_read}
use Rattle.bitvec_ptr.proofs.PlaceLemmas.{words_met-none}
use Rattle.bitvec_span.specs.BitSpan.{span_of}
use Rattle.bitvec_span.specs.Span.{Fits}
use Rattle.bitvec.proofs.RisingLemmas.{AllBelow, each_more, fits_from_end, place_number, one_more_rises, one_more_empty}
use Rattle.bitvec.proofs.run.first_out_of_order.Goals as goal
use Rattle.bitvec.proofs.run.first_out_of_order.Goals.{then-not-is_empty+else-start-upto+else-limit-end, else-not-is_empty}

pub loop-i-preserved : goal.loop-i-preserved
loop-i-preserved g c =
    let width = g.R.BitRegister.BITS in
    let spans = c.args.spans.now in
    let words = c.min-words.result in
    let span = c.index-spans-i.result in
    let so_far = c.loop-i.invariant in
    let within : c.loop-i.i < length c.args.spans.now = omega arith in
    let is = slice_get_read spans (length spans) c.loop-i.i span refl within c.index-spans-i.is in
    let near = c.starts_within.ensures.0 (search rules) in
    elim c.if-not-is_empty.branch [
      | then-not-is_empty+else-start-upto+else-limit-end w ↦ (
          let some : 0 < span.len = search (rules, arith) in
          let place = place_number width span.head span.word near.0 in
          let number : w.first_bit-start.result ≡ nat_abs span.word * width + span.head = w.first_bit-start.ensures in
          let limit : words * c.from.result ≡ words * width = ap (λ n. words * n) (c.from.ensures ∙ c.BITS.ensures) in
          let fits : Fits width (span_of span) words = fits_from_end width (span_of span) words (omega (arith, g.met.R.BitRegister.width_at_least_8)) some near.0
          (omega (arith, limit, number, w.len.ensures, w.if-limit-end.false)) in
          let next = one_more_rises width span_of spans c.loop-i.i c.loop-i.upto c.if-not-is_empty.upto span is so_far.apart so_far.below
          (omega (arith, ints, place, number, w.if-start-upto.false)) (omega (arith, ints, place, number, w.len.ensures, w.upto-is)) in
          record {
            fit = each_more (λ x. Fits width (span_of x) words) spans c.loop-i.i span is so_far.fit fits;
            apart = next.0;
            below = next.1;
          })
      | else-not-is_empty w ↦ (
          let none : span.len ≡ 0 = search rules in
          let fits : Fits width (span_of span) words = (near.0, rw (words_met-none width span.head span.len none) (omega (arith, near.1))) in
          let next = one_more_empty width span_of spans c.loop-i.i c.loop-i.upto span is so_far.apart so_far.below none in
          record {
            fit = each_more (λ x. Fits width (span_of x) words) spans c.loop-i.i span is so_far.fit fits;
            apart = next.0;
            below = subst (λ n. AllBelow width span_of spans (c.loop-i.i + 1) n) (sym w.upto-is) next.1;
          })
    ]
