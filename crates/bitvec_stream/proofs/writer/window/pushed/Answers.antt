use Rattle.std.proofs.Common.{◌≡◌, ◌+◌, ◌-◌, ◌<◌, ap, ◌∙◌, arith}
use Rattle.std.proofs.Math.Bool.{or-false}
use Rattle.bitvec.specs.Digit.{digit}
use Rattle.bitvec.proofs.DigitLemmas.{digit_above}
use Rattle.bitvec_stream.proofs.DigitRangeLemmas.{moved_low}
use Rattle.bitvec_stream.proofs.writer.window.pushed.Goals as goal

pub returns-clause-new : goal.returns-clause-new
returns-clause-new g c = λ p h.
    let number = g.R.BitRegister.number in
    let inside : p < g.R.BitRegister.BITS = omega (arith, h, c.requires.within) in
    let low = moved_low g.R.BitRegister.BITS (number c.shl.result) (number c.shl-moved.result) c.args.count c.shl.ensures.low c.shl-moved.ensures.low c.shl-moved.ensures.moved p h inside in
    c.or.ensures.digits p inside ∙ rw low (c.low_digits.ensures.digits p inside)

pub returns-clause-old : goal.returns-clause-old
returns-clause-old g c = λ p h.
    let n = c.args.count in
    let up : n + p ≡ 1 + (n - 1 + p) = omega (arith, c.requires.some) in
    let none = c.low_digits.ensures.digits (n + p) h ∙ digit_above (g.N.BitRegister.number c.args.digits) n (n + p) c.requires.small (omega arith) in
    c.or.ensures.digits (n + p) h
    ∙ rw none (or-false (digit (g.R.BitRegister.number c.shl-moved.result) (n + p)))
    ∙ ap (digit (g.R.BitRegister.number c.shl-moved.result)) up
    ∙ c.shl-moved.ensures.moved (n - 1 + p) (omega (arith, h, c.requires.some))
    ∙ c.shl.ensures.moved p (omega (arith, h, c.requires.some))
