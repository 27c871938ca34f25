use Rattle.std.proofs.Common.{◌≡◌, ◌++◌, ◌∷◌, [], map, ap, ◌∙◌, refl, None, zero-le, rules}
use Rattle.bitvec_span.specs.Parts.{region, whole_part, value_of, items, part_items}
use Rattle.bitvec_span.specs.Domain.{optional_part, domain_parts}
use Rattle.bitvec_span.proofs.ItemLemmas.{value_of-whole, items_last}
use Rattle.bitvec_span.proofs.LeftLemmas.{left-last, fewer_last, takes_last, items_tail, region_same, no_whole}
use Rattle.bitvec_span.proofs.domain.DomainDoubleEndedIterator.next_back.Goals as goal

pub returns-in-Some-clause-steps : goal.returns-in-Some-clause-steps
returns-in-Some-clause-steps g c =
    let width = g.R.BitRegister.BITS in
    let number = g.R.BitRegister.number in
    let at = g.O.BitAt.at_of in
    let value = value_of-whole width at (number c.in-Some.word.now) g.met.O.BitOrder.one_to_one c.to_u128-number.ensures.below in
    let before = part_items width at (optional_part number c.in-Region-default-default-None.head) in
    let shown : items width at (domain_parts number c.args.self.now) ≡ before ++ (map (λ w. value_of width at (whole_part width w)) (map number c.in-Region-default-default-None.body.now) ++ []) = search rules in
    let parts : domain_parts number c.args.self.now ≡ region (optional_part number c.in-Region-default-default-None.head) (map number c.in-Region-default-default-None.body.now) None = search rules in
    let last : c.in-Region-default-default-None.body.now ≡ c.in-Some.body.now ++ (c.in-Some.word.now ∷ []) = search rules in (
      shown ∙ ap (λ xs. before ++ (map (λ w. value_of width at (whole_part width w)) (map number xs) ++ [])) last ∙ items_last width at number before c.in-Some.body.now c.in-Some.word.now value,
      left-last width number (optional_part number c.in-Region-default-default-None.head) c.in-Some.body.now c.in-Region-default-default-None.body.now c.in-Some.word.now (domain_parts number c.args.self.now) parts last,
    )

pub returns-in-Some-clause-goes : goal.returns-in-Some-clause-goes
returns-in-Some-clause-goes g c = record { on = λ _. (tt, tt, fewer_last _ _ _ (returns-in-Some-clause-steps g c).0); keeps = tt; rests = λ _. tt }

pub returns-in-Enclave-clause-steps : goal.returns-in-Enclave-clause-steps
returns-in-Enclave-clause-steps g c = takes_last g.R.BitRegister.BITS g.O.BitAt.at_of (ap (domain_parts g.R.BitRegister.number) c.in-Enclave.is) c.default.ensures c.load_value.ensures (refl, (refl, λ _. zero-le))

pub returns-in-Enclave-clause-goes : goal.returns-in-Enclave-clause-goes
returns-in-Enclave-clause-goes g c = record { on = λ _. (tt, tt, fewer_last _ _ _ (returns-in-Enclave-clause-steps g c).0); keeps = tt; rests = λ _. tt }

pub returns-in-Region-default-default-Some-clause-steps : goal.returns-in-Region-default-default-Some-clause-steps
returns-in-Region-default-default-Some-clause-steps g c =
    let number = g.R.BitRegister.number in
    takes_last g.R.BitRegister.BITS g.O.BitAt.at_of (ap (domain_parts number) c.in-Region-default-default-Some.is ∙ region_same refl refl (ap (optional_part number) (rw c.in-Region-default-default-Some.is at c.in-Region-default-default-Some.tail-is))) refl c.load_value-in-Region-default-default-Some.ensures (items_tail g.R.BitRegister.BITS g.O.BitAt.at_of _ _ _, (refl, λ short. short))

pub returns-in-Region-default-default-Some-clause-goes : goal.returns-in-Region-default-default-Some-clause-goes
returns-in-Region-default-default-Some-clause-goes g c = record { on = λ _. (tt, tt, fewer_last _ _ _ (returns-in-Region-default-default-Some-clause-steps g c).0); keeps = tt; rests = λ _. tt }

pub returns-in-Some-head-clause-steps : goal.returns-in-Some-head-clause-steps
returns-in-Some-head-clause-steps g c =
    let number = g.R.BitRegister.number in
    takes_last g.R.BitRegister.BITS g.O.BitAt.at_of (ap (domain_parts number) c.in-Region-default-default-None.is ∙ region_same (ap (optional_part number) c.in-Some-head.is) (no_whole number _ c.in-None.ensures.cases) (ap (optional_part number) (rw c.in-Region-default-default-None.is at c.in-Region-default-default-None.tail-is))) c.default-in-None.ensures c.load_value-in-Some-head.ensures (refl, (refl, λ _. zero-le))

pub returns-in-Some-head-clause-goes : goal.returns-in-Some-head-clause-goes
returns-in-Some-head-clause-goes g c = record { on = λ _. (tt, tt, fewer_last _ _ _ (returns-in-Some-head-clause-steps g c).0); keeps = tt; rests = λ _. tt }
