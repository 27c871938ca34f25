use Rattle.std.proofs.Common.{◌≡◌, ◌-◌, ◌&&◌, nat_lt, map, ap, ◌∙◌, subst, arith}
use Rattle.bitvec.specs.Digit.{digit}
use Rattle.bitvec.specs.BitSpan.{span_of}
use Rattle.bitvec.specs.Span.{element, list_of}
use Rattle.bitvec_slice.specs.Field.{stretch_start, stretch_end, part_shift}
use Rattle.bitvec_slice.proofs.FieldLemmas.{IsMovedDown, part_cut, met_bounds}
use Rattle.bitvec_slice.proofs.field.load_part.Goals as goal

pub low_ones-requires-clause-some : goal.low_ones-requires-clause-some
low_ones-requires-clause-some g c =
    let span = c.args.span in
    let eight = g.met.R.BitRegister.width_at_least_8 in
    let bounds = met_bounds g.R.BitRegister.BITS span.head span.len c.args.k (omega (arith, eight)) (omega (arith, span.in_word, eight)) c.requires.met in
    omega (arith, c.stretch-start.ensures.start, c.stretch-start.ensures.end, bounds.2)

pub returns : goal.returns
returns g c =
    let width = g.R.BitRegister.BITS in
    let at = g.O.BitAt.at_of in
    let rises = g.O.Sequential.RISES in
    let span = c.args.span in
    let k = c.args.k in
    let eight = g.met.R.BitRegister.width_at_least_8 in
    let bit = element (list_of width at (span_of span) (map g.R.BitRegister.number c.args.memory.now)) in
    let w = g.R.BitRegister.number c.word_met-word.result in
    let v = g.R.BitRegister.number c.shr.result in
    let r = g.R.BitRegister.number c.and.result in
    let down : IsMovedDown c.shift.result width w v = record { below = c.shr.ensures.below; moved = c.shr.ensures.moved; high = c.shr.ensures.high } in
    let count : c.stretch-start.result.1 - c.stretch-start.result.0 ≡ stretch_end width span.head span.len c.args.k - stretch_start width span.head c.args.k =
    ap (λ n. n - c.stretch-start.result.0) c.stretch-start.ensures.end ∙ ap (λ n. stretch_end width span.head span.len c.args.k - n) c.stretch-start.ensures.start in
    part_cut width span.head span.len c.args.k bit (omega (arith, eight)) (omega (arith, span.in_word, eight)) c.requires.met at w v r rises g.met.O.Sequential.sequence c.word_met-word.ensures
    (subst (λ n. IsMovedDown n width w v) {y = part_shift rises width span.head span.len c.args.k} c.shift.ensures.value down) c.and.ensures.below
    (λ p h. c.and.ensures.digits p h ∙ ap (λ b. b && digit v p) (c.low_ones.ensures.digits p h ∙ ap (nat_lt p) count))
