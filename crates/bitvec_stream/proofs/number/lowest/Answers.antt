use Rattle.std.proofs.Common.{◌≡◌, ℕ, ◌+◌, ◌-◌, ◌<◌, ◌≤◌, true, false, ap, ◌∙◌, arith}
use Rattle.bitvec.specs.Digit.{digit}
use Rattle.bitvec.proofs.DigitLemmas.{digit_all}
use Rattle.bitvec_stream.proofs.DigitRangeLemmas.{masked_is}
use Rattle.bitvec_stream.proofs.number.lowest.Goals as goal

pub returns : goal.returns
returns g c =
    let number = g.N.BitRegister.number in
    let bits = g.N.BitRegister.BITS in
    let count = c.args.count in
    let mask = number c.shr.result in
    let all = ap number c.ALL.ensures ∙ g.met.N.BitRegister.all_is_greatest in
    let ones : (p : ℕ) → p < bits → p < count → digit mask p ≡ true = λ p h low.
    (c.shr.ensures.moved p (omega (arith, low, c.requires.few, c.BITS.ensures))
    ∙ ap (λ w. digit w (c.BITS.result - count + p)) all
    ∙ digit_all bits (c.BITS.result - count + p) (omega (arith, low, c.requires.few, c.BITS.ensures))) in
    let none : (p : ℕ) → p < bits → count ≤ p → digit mask p ≡ false = λ p h high. c.shr.ensures.high p h (omega (arith, h, high, c.requires.few, c.BITS.ensures)) in
    masked_is bits (number c.args.digits) mask (number c.and.result) count c.requires.few c.and.ensures.below c.and.ensures.digits ones none
