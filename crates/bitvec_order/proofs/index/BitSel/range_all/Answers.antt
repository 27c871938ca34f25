use Rattle.std.proofs.Common.{map, ◌^◌, ap, ◌∙◌, arith}
use Rattle.std.proofs.lemmas.List.{length-map}
use Rattle.bitvec_order.proofs.index.BitSel.range_all.Goals as goal

pub returns-clause-items : goal.returns-clause-items
returns-clause-items g c = ap (map (λ p. 2 ^ p)) c.range_all.ensures.items

pub returns-clause-count : goal.returns-clause-count
returns-clause-count g c = length-map c.range_all.result (λ p. 2 ^ p) ∙ c.range_all.ensures.count

pub returns-clause-short : goal.returns-clause-short
returns-clause-short g c = omega (arith, length-map c.range_all.result (λ p. 2 ^ p), c.range_all.ensures.short)
