use Rattle.std.proofs.Common.{◌≡◌, ℕ, ◌+◌, ◌*◌, ◌-◌, ◌/◌, ◌<◌, not, map, sym, ap, subst, ◌∙◌, arith}
use Rattle.std.proofs.lemmas.Nat.{div-add-mod', pow_pos}
use Rattle.std.proofs.Math.Nat.{mul-le-mul_right}
use Rattle.bitvec.specs.Digit.{digit}
use Rattle.bitvec_slice.specs.BitSlice.{slice_memory, slice_span}
use Rattle.bitvec_slice.proofs.SkipLemmas.{AreInWords, all_zero, all_one, words_before, ends_behind, begins_behind, passed_back_bounds, skipped_elements}
use Rattle.bitvec_slice.proofs.slice.bit_slice.BitSlice.pass_words_back.Goals as goal
use Rattle.bitvec_slice.proofs.slice.bit_slice.BitSlice.pass_words_back.Goals.{then-bit, else-bit}

pub last_other-requires-clause-met : goal.last_other-requires-clause-met
last_other-requires-clause-met g c =
    let slice = c.args.self.now in
    words_before g.R.BitRegister.BITS c.bits_of-width.result slice.span.head c.head-head.result slice.span.len c.args.upto c.bits_of-width.ensures.value c.head-head.ensures (omega (arith, slice.span.in_word, g.met.R.BitRegister.width_at_least_8)) c.requires.inside

pub last_other-requires-clause-ordered : goal.last_other-requires-clause-ordered
last_other-requires-clause-ordered g c =
    let width = c.bits_of-width.result in
    let index = c.head-head.result in
    ends_behind width (index + c.args.from) ((index + c.args.upto) / width) (omega (arith, c.bits_of-width.ensures.least)) (omega (arith, c.if-end-width.false, c.requires.ordered))

pub last_other-requires-clause-below : goal.last_other-requires-clause-below
last_other-requires-clause-below g c =
    let bits = g.R.BitRegister.BITS in
    let number = g.R.BitRegister.number in
    let some = pow_pos bits in
    elim c.if-bit.branch [
      | then-bit w ↦ (let zero = ap number (w.lacking-is ∙ w.ZERO-lacking.ensures) ∙ g.met.R.BitRegister.zero_is_0 in omega (arith, zero, some))
      | else-bit w ↦ (let all = ap number (w.lacking-is ∙ w.ALL-lacking.ensures) ∙ g.met.R.BitRegister.all_is_greatest in omega (arith, all, some))
    ]

pub returns-clause-lacking : goal.returns-clause-lacking
returns-clause-lacking g c =
    let slice = c.args.self.now in
    let bits = g.R.BitRegister.BITS in
    let number = g.R.BitRegister.number in
    let width = c.bits_of-width.result in
    let index = c.head-head.result in
    let upto = c.args.upto in
    let k = c.last_other.result in
    let r = (index + upto) / width in
    let span = slice_span slice in
    let whole : r * width ≡ index + upto = omega (arith, c.if-end-width.false) in
    let from = k * width - index in
    let passed = passed_back_bounds width span index upto k r c.head-head.ensures whole c.requires.inside in
    let lie = subst (λ b. AreInWords b span from upto k r) c.bits_of-width.ensures.value passed in
    let digits : (p : ℕ) → p < bits → digit (number c.if-bit.lacking) p ≡ not c.args.bit =
    elim c.if-bit.branch [
      | then-bit w ↦ λ p small. all_zero _ p (ap number (w.lacking-is ∙ w.ZERO-lacking.ensures) ∙ g.met.R.BitRegister.zero_is_0) ∙ sym (ap not w.if-bit.true)
      | else-bit w ↦ λ p small. all_one bits _ p (ap number (w.lacking-is ∙ w.ALL-lacking.ensures) ∙ g.met.R.BitRegister.all_is_greatest) small ∙ sym (ap not w.if-bit.false)
    ] in
    skipped_elements bits g.O.BitAt.at_of span (map number (slice_memory slice)) (not c.args.bit)
    k r from upto g.met.O.BitOrder.one_to_one
    (λ w p low high small. c.last_other.ensures.words w p low high small ∙ digits p small) lie

pub overflow_sub-result : goal.overflow_sub-result
overflow_sub-result g c =
    let width = c.bits_of-width.result in
    let index = c.head-head.result in
    omega (arith, begins_behind width (index + c.args.from) c.last_other.result (omega (arith, c.bits_of-width.ensures.least)) c.last_other.ensures.start)

pub returns-clause-start : goal.returns-clause-start
returns-clause-start g c =
    let width = c.bits_of-width.result in
    let index = c.head-head.result in
    omega (arith, begins_behind width (index + c.args.from) c.last_other.result (omega (arith, c.bits_of-width.ensures.least)) c.last_other.ensures.start)

pub returns-clause-end : goal.returns-clause-end
returns-clause-end g c =
    let above = mul-le-mul_right c.bits_of-width.result c.last_other.ensures.end in
    omega (arith, above, c.if-end-width.false)

pub overflow_mul-end : goal.overflow_mul-end
overflow_mul-end g c =
    let slice = c.args.self.now in
    let parts = div-add-mod' (c.head-head.result + c.args.upto) c.bits_of-width.result in
    omega (arith, parts, c.head-head.ensures, c.requires.inside, slice.span.short, slice.span.in_word, g.met.R.BitRegister.width_at_most_128)

pub overflow_mul-result : goal.overflow_mul-result
overflow_mul-result g c =
    let slice = c.args.self.now in
    let above = mul-le-mul_right c.bits_of-width.result c.last_other.ensures.end in
    let parts = div-add-mod' (c.head-head.result + c.args.upto) c.bits_of-width.result in
    omega (arith, above, parts, c.head-head.ensures, c.requires.inside, slice.span.short, slice.span.in_word, g.met.R.BitRegister.width_at_most_128)

pub returns-then-end-width-clause-lacking : goal.returns-then-end-width-clause-lacking
returns-then-end-width-clause-lacking g c = λ j h k. absurd (omega (arith, h, k))
