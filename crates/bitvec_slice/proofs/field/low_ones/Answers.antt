use Rattle.std.proofs.Common.{◌≡◌, ◌+◌, ◌-◌, ◌^◌, ap, sym, ◌∙◌, inl, inr, arith}
use Rattle.std.proofs.lemmas.Bool.{cases_lt, lt-ltb, le-ltb}
use Rattle.bitvec.specs.Digit.{digit}
use Rattle.bitvec.proofs.DigitLemmas.{digit_all}
use Rattle.bitvec_slice.proofs.field.low_ones.Goals as goal

pub returns-clause-digits : goal.returns-clause-digits
returns-clause-digits g c =
    let width = g.R.BitRegister.BITS in
    let all : g.R.BitRegister.number c.ALL.result ≡ 2 ^ width - 1 = ap g.R.BitRegister.number c.ALL.ensures ∙ g.met.R.BitRegister.all_is_greatest in
    λ p h. elim (cases_lt p c.args.count) [
      | inl below ↦ (
          c.shr.ensures.moved p (omega (arith, c.BITS.ensures, below, c.requires.within))
          ∙ ap (λ n. digit n (c.BITS.result - c.args.count + p)) all
          ∙ digit_all width (c.BITS.result - c.args.count + p) (omega (arith, c.BITS.ensures, below, c.requires.within))
          ∙ sym (lt-ltb p c.args.count below))
      | inr above ↦ c.shr.ensures.high p h (omega (arith, c.BITS.ensures, above, c.requires.within)) ∙ sym (le-ltb p c.args.count above)
    ]
