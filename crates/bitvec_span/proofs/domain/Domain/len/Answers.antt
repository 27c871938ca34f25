use Rattle.std.proofs.Common.{◌≡◌, ap, sym, ◌∙◌, refl, false, Some, None, arith}
use Rattle.std.specs.Prelude.{is_some}
use Rattle.bitvec_span.specs.Domain.{optional_part, domain_parts}
use Rattle.bitvec_span.proofs.ItemLemmas.{region_fits, length-items_region}
use Rattle.bitvec_span.proofs.domain.Domain.len.Goals as goal

pub overflow_add-result : goal.overflow_add-result
overflow_add-result g c =
    let number = g.R.BitRegister.number in
    let most = region_fits g.R.BitRegister.BITS number _ c.in-Region.body.now _ _ c.is_some.result false g.met.R.BitRegister.width_at_least_8 (ap (domain_parts number) c.in-Region.is) c.requires in
    omega arith

pub overflow_add-result-in-Region : goal.overflow_add-result-in-Region
overflow_add-result-in-Region g c =
    let number = g.R.BitRegister.number in
    let most = region_fits g.R.BitRegister.BITS number _ c.in-Region.body.now _ _ c.is_some.result c.is_some-in-Region.result g.met.R.BitRegister.width_at_least_8 (ap (domain_parts number) c.in-Region.is) c.requires in
    omega arith

pub returns-in-Region : goal.returns-in-Region
returns-in-Region g c =
    let number = g.R.BitRegister.number in
    let front : is_some (optional_part number c.in-Region.head) ≡ c.is_some.result = elim c.in-Region.head as (λ h. is_some (optional_part number h) ≡ is_some h) [ Some part ↦ refl | None ↦ refl ] ∙ sym c.is_some.ensures in
    let back : is_some (optional_part number c.in-Region.tail) ≡ c.is_some-in-Region.result = elim c.in-Region.tail as (λ h. is_some (optional_part number h) ≡ is_some h) [ Some part ↦ refl | None ↦ refl ] ∙ sym c.is_some-in-Region.ensures in
    rw (c.in-Region.is, c.from.ensures, c.from-in-Region.ensures) (length-items_region g.R.BitRegister.BITS g.O.BitAt.at_of number _ c.in-Region.body.now _ c.is_some.result c.is_some-in-Region.result front back)
