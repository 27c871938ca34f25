use Rattle.std.proofs.Common.{Some, ap, sym, ◌∙◌}
use Rattle.bitvec_span.specs.BitParts.{bit_region, bit_parts_of}
use Rattle.bitvec_span.specs.DomainMut.{lent_parts, loans_of}
use Rattle.bitvec_span.specs.BitLoans.{stretch_loans}
use Rattle.bitvec_span.proofs.ItemLemmas.{region_short}
use Rattle.bitvec_span.proofs.domain.domain_mut.DomainMut.into_bit_domain.Goals as goal

pub of_body-requires : goal.of_body-requires
of_body-requires g c = let number = g.R.BitRegister.number in region_short g.R.BitRegister.BITS number _ c.in-Region.body.now _ _ (ap (lent_parts number) c.in-Region.is) c.requires

pub returns-in-Region-clause-bits : goal.returns-in-Region-clause-bits
returns-in-Region-clause-bits g c = (λ i. bit_region (c.of_part.ensures.bits i) (c.of_body.ensures.bits i) (c.of_part-in-Region.ensures.bits i)) ∙ sym (ap (bit_parts_of g.R.BitRegister.BITS) (ap (lent_parts g.R.BitRegister.number) c.in-Region.is))

pub returns-in-Region-clause-names : goal.returns-in-Region-clause-names
returns-in-Region-clause-names g c = rw c.in-Region.is (λ i. (c.of_part.ensures.name i, Some (c.of_body.ensures.name i), c.of_part-in-Region.ensures.name i))

pub returns-in-Region-clause-loans : goal.returns-in-Region-clause-loans
returns-in-Region-clause-loans g c = (λ i. (c.of_part.ensures.loan i, Some (c.of_body.ensures.loan i, c.of_part-in-Region.ensures.loan i))) ∙ sym (ap (stretch_loans g.R.BitRegister.BITS) (ap loans_of c.in-Region.is))
