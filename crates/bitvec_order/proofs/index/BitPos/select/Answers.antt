use Rattle.std.proofs.Common.{◌≡◌, ◌^◌, ◌∙◌, ap}
use Rattle.bitvec_mem.specs.Digit.{digit, count_below}
use Rattle.bitvec_mem.proofs.DigitLemmas.{pow_from_digits, count_below-pow}
use Rattle.bitvec_order.proofs.index.BitPos.select.Given.{Over}
use Rattle.bitvec_order.proofs.index.BitPos.select.Goals as goal
use Rattle.bitvec_order.proofs.index.BitPos.select.Goals.{After-shl}

made : (g : Over) (c : After-shl g) → g.R.BitRegister.number c.shl.result ≡ 2 ^ c.self.inside.pos
made g c =
    pow_from_digits g.R.BitRegister.BITS c.self.inside.pos _ c.shl.ensures.below c.self.invariant c.shl.ensures.low
    (λ p lt. c.shl.ensures.moved p lt ∙ ap (λ x. digit (g.R.BitRegister.number x) p) c.ONE.ensures ∙ ap (λ n. digit n p) g.met.R.BitRegister.one_is_1)

pub invariant_of-result : goal.invariant_of-result
invariant_of-result g c = (c.shl.ensures.below, ap (λ n. count_below (digit n) g.R.BitRegister.BITS) (made g c) ∙ count_below-pow g.R.BitRegister.BITS c.self.inside.pos c.self.invariant)

pub returns-clause-value : goal.returns-clause-value
returns-clause-value g c = made g c ∙ ap (λ n. 2 ^ n) c.self.view_is
