use Rattle.std.proofs.Common.{◌≡◌, ◌+◌, ◌-◌, sym, ◌∙◌, ap, arith}
use Rattle.bitvec_mem.specs.Digit.{digit}
use Rattle.bitvec_ptr.proofs.ptr.copy.gather.singly_of_two.Goals as goal

pub returns-clause-high : goal.returns-clause-high
returns-clause-high g c = λ j h r.
    let bits = g.R.BitRegister.BITS in
    let most = c.requires.most in
    let past = c.if-count-first.false in
    let wide = c.BITS.ensures in
    let first = c.BITS.result - c.args.shift in
    let back : c.args.bit + (c.BITS.result - c.args.shift) + (j - (c.BITS.result - c.args.shift)) ≡ c.args.bit + j = omega arith in
    let there : 0 + (j - (c.BITS.result - c.args.shift)) ≡ c.args.shift + j - bits = omega arith in
    ap (λ v. digit (g.R2.BitRegister.number c.singly-2.result) (g.O2.BitAt.at_of v)) (sym back)
    ∙ c.singly-2.ensures.inside (j - (c.BITS.result - c.args.shift)) (omega arith)
    ∙ ap (λ v. digit (g.R.BitRegister.number c.args.high) (g.O.BitAt.at_of v)) there
