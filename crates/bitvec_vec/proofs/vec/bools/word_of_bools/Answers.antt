use Rattle.std.proofs.Common.{sym, rules, ◌≡◌, ◌<◌, ◌^◌, if◌then◌else◌, Bool, ℕ, ◌∙◌, ap, subst, arith}
use Rattle.bitvec.specs.Span.{element}
use Rattle.bitvec.specs.Order.{number_of}
use Rattle.bitvec_vec.proofs.BoolLemmas.{moved_choice, number_of-start, word_next}
use Rattle.bitvec_vec.proofs.vec.bools.word_of_bools.Goals as goal

pub loop-i-init : goal.loop-i-init
loop-i-init g c = ap g.R.BitRegister.number c.ZERO-word.ensures ∙ g.met.R.BitRegister.zero_is_0 ∙ sym (number_of-start g.O.BitAt.at_of (element c.args.bits.now))

pub loop-i-preserved : goal.loop-i-preserved
loop-i-preserved g c =
    let width = g.R.BitRegister.BITS in
    let at = g.O.BitAt.at_of in
    let number = g.R.BitRegister.number in
    let test : ℕ → Bool = element c.args.bits.now in
    let i = c.loop-i.i in
    let within : i < width = omega (arith, c.loop-i-test.true, c.BITS-i-end.ensures) in
    let place : c.into_inner.result ≡ at i = c.into_inner.ensures.value ∙ c.position-position.ensures ∙ ap at c.new_unchecked.ensures in
    let one : number c.one_where-one.result ≡ (if test i then 1 else 0) = c.one_where-one.ensures ∙ ap (λ n. if test n then 1 else 0) c.from.ensures in
    let moved : number c.shl.result ≡ (if test i then 2 ^ c.into_inner.result else 0) =
    moved_choice width c.into_inner.result (test i) (number c.one_where-one.result) (number c.shl.result) (subst (λ n. n < width) (sym c.into_inner.ensures.value) c.into_inner.ensures.below) one c.shl.ensures.below c.shl.ensures.low c.shl.ensures.moved in
    word_next width at test i (number c.loop-i.word) (number c.shl.result) (number c.or-word.result) g.met.O.BitOrder.one_to_one within c.loop-i.invariant
    (moved ∙ ap (λ n. if test i then 2 ^ n else 0) place) c.shl.ensures.below c.or-word.ensures.below c.or-word.ensures.digits

pub returns : goal.returns
returns g c =
    let ends : c.loop-i.i ≡ g.R.BitRegister.BITS = omega (arith, c.loop-i.auto.i-end, c.loop-i-test.false, c.BITS-i-end.ensures) in
    c.loop-i.invariant ∙ ap (number_of g.O.BitAt.at_of (element c.args.bits.now)) ends
