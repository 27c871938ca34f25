use Rattle.std.proofs.Common.{◌≡◌, ℕ, ◌+◌, ◌-◌, ◌<◌, ap, ◌∙◌, subst, arith, nat_lt, false}
use Rattle.bitvec.specs.Digit.{digit}
use Rattle.bitvec_slice.specs.Field.{stretch_start, stretch_end, part_shift}
use Rattle.bitvec_slice.proofs.FieldLemmas.{met_bounds}
use Rattle.bitvec_slice.proofs.FieldStoreLemmas.{part_mask}
use Rattle.bitvec_slice.proofs.field.word_mask.Goals as goal

pub low_ones-requires-clause-some : goal.low_ones-requires-clause-some
low_ones-requires-clause-some g c =
    let span = c.args.span in
    let eight = g.met.R.BitRegister.width_at_least_8 in
    let bounds = met_bounds g.R.BitRegister.BITS span.head span.len c.args.k (omega (arith, eight)) (omega (arith, span.in_word, eight)) c.requires in
    omega (arith, c.stretch-start.ensures.start, c.stretch-start.ensures.end, bounds.2)

pub returns : goal.returns
returns g c =
    let width = g.R.BitRegister.BITS in
    let rises = g.O.Sequential.RISES in
    let span = c.args.span in
    let eight = g.met.R.BitRegister.width_at_least_8 in
    let m = g.R.BitRegister.number c.low_ones.result in
    let r = g.R.BitRegister.number c.shl.result in
    let count : c.stretch-start.result.1 - c.stretch-start.result.0 ≡ stretch_end width span.head span.len c.args.k - stretch_start width span.head c.args.k =
    ap (λ n. n - c.stretch-start.result.0) c.stretch-start.ensures.end ∙ ap (λ n. stretch_end width span.head span.len c.args.k - n) c.stretch-start.ensures.start in
    part_mask rises width span.head span.len c.args.k g.O.BitAt.at_of m r (omega (arith, eight)) (omega (arith, span.in_word, eight)) c.requires g.met.O.Sequential.sequence
    (λ q h. c.low_ones.ensures.digits q h ∙ ap (nat_lt q) count)
    (subst (λ (n : ℕ). (q : ℕ) → q < n → digit r q ≡ false) {y = part_shift rises width span.head span.len c.args.k} c.shift.ensures.value c.shl.ensures.low)
    (subst (λ (n : ℕ). (q : ℕ) → n + q < width → digit r (n + q) ≡ digit m q) {y = part_shift rises width span.head span.len c.args.k} c.shift.ensures.value c.shl.ensures.moved)
