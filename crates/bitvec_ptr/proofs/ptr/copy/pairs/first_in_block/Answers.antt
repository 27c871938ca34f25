use Rattle.std.proofs.Common.{sym, ap, ◌∙◌}
use Rattle.bitvec_mem.specs.Digit.{digit}
use Rattle.bitvec_mem.proofs.DigitLemmas.{digit-zero}
use Rattle.bitvec_ptr.proofs.ptr.copy.pairs.first_in_block.Goals as goal

pub returns-then-to_u128-eq0 : goal.returns-then-to_u128-eq0
returns-then-to_u128-eq0 g c =
    c.joined_row-joined.ensures (λ p h. ap (λ n. digit n p) (sym c.to_u128.ensures.number ∙ c.if-to_u128-eq0.true) ∙ digit-zero p)
