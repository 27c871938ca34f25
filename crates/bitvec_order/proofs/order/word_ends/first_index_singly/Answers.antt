use Rattle.std.proofs.Common.{sym, ap, ◌∙◌}
use Rattle.bitvec_mem.specs.Digit.{digit}
use Rattle.bitvec_mem.proofs.DigitLemmas.{digit-zero}
use Rattle.bitvec_order.proofs.order.word_ends.first_index_singly.Goals as goal

pub returns-then-to_u128-eq0 : goal.returns-then-to_u128-eq0
returns-then-to_u128-eq0 g c = λ i h.
    ap (λ n. digit n (g.O.BitAt.at_of i)) (sym c.to_u128.ensures.number ∙ c.if-to_u128-eq0.true) ∙ digit-zero (g.O.BitAt.at_of i)
