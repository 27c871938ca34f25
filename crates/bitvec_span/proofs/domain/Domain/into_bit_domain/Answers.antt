use Rattle.std.proofs.Common.{ap, sym, ◌∙◌}
use Rattle.bitvec_span.specs.BitParts.{bit_region, bit_parts_of}
use Rattle.bitvec_span.specs.Domain.{domain_parts}
use Rattle.bitvec_span.proofs.ItemLemmas.{region_short}
use Rattle.bitvec_span.proofs.domain.Domain.into_bit_domain.Goals as goal

pub of_body-requires : goal.of_body-requires
of_body-requires g c = let number = g.R.BitRegister.number in region_short g.R.BitRegister.BITS number _ c.in-Region.body.now _ _ (ap (domain_parts number) c.in-Region.is) c.requires

pub returns-in-Region : goal.returns-in-Region
returns-in-Region g c = (λ i. bit_region (c.of_part.ensures i) (c.of_body.ensures i) (c.of_part-in-Region.ensures i)) ∙ sym (ap (bit_parts_of g.R.BitRegister.BITS) (ap (domain_parts g.R.BitRegister.number) c.in-Region.is))
