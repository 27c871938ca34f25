use Rattle.std.proofs.Common.{◌≡◌, ap, ◌∙◌, refl, zero-le, rules}
use Rattle.bitvec_span.specs.Parts.{whole_part, value_of}
use Rattle.bitvec_span.proofs.ItemLemmas.{value_of-whole}
use Rattle.bitvec_span.specs.Domain.{optional_part, domain_parts}
use Rattle.bitvec_span.proofs.LeftLemmas.{fewer_first, takes_first, region_same, no_whole}
use Rattle.bitvec_span.proofs.domain.DomainIterator.next.Goals as goal

pub returns-in-Some-clause-steps : goal.returns-in-Some-clause-steps
returns-in-Some-clause-steps g c =
    let width = g.R.BitRegister.BITS in
    let value : value_of g.R.BitRegister.BITS g.O.BitAt.at_of (whole_part g.R.BitRegister.BITS (g.R.BitRegister.number c.in-Some.word.now)) ≡ g.R.BitRegister.number c.in-Some.word.now
    = value_of-whole width g.O.BitAt.at_of (g.R.BitRegister.number c.in-Some.word.now) g.met.O.BitOrder.one_to_one c.to_u128-number.ensures.below in
    search (rules, value)

pub returns-in-Some-clause-goes : goal.returns-in-Some-clause-goes
returns-in-Some-clause-goes g c = record { on = λ _. (tt, tt, fewer_first (returns-in-Some-clause-steps g c).0); keeps = tt; rests = λ _. tt }

pub returns-in-Enclave-clause-steps : goal.returns-in-Enclave-clause-steps
returns-in-Enclave-clause-steps g c = takes_first g.R.BitRegister.BITS g.O.BitAt.at_of (ap (domain_parts g.R.BitRegister.number) c.in-Enclave.is) c.default.ensures c.load_value.ensures (refl, (refl, λ _. zero-le))

pub returns-in-Enclave-clause-goes : goal.returns-in-Enclave-clause-goes
returns-in-Enclave-clause-goes g c = record { on = λ _. (tt, tt, fewer_first (returns-in-Enclave-clause-steps g c).0); keeps = tt; rests = λ _. tt }

pub returns-in-Region-Some-default-default-clause-steps : goal.returns-in-Region-Some-default-default-clause-steps
returns-in-Region-Some-default-default-clause-steps g c =
    let number = g.R.BitRegister.number in
    takes_first g.R.BitRegister.BITS g.O.BitAt.at_of (ap (domain_parts number) c.in-Region-Some-default-default.is ∙ region_same (ap (optional_part number) (rw c.in-Region-Some-default-default.is at c.in-Region-Some-default-default.head-is)) refl refl) refl c.load_value-in-Region-Some-default-default.ensures (refl, (refl, λ short. short))

pub returns-in-Region-Some-default-default-clause-goes : goal.returns-in-Region-Some-default-default-clause-goes
returns-in-Region-Some-default-default-clause-goes g c = record { on = λ _. (tt, tt, fewer_first (returns-in-Region-Some-default-default-clause-steps g c).0); keeps = tt; rests = λ _. tt }

pub returns-in-Some-tail-clause-steps : goal.returns-in-Some-tail-clause-steps
returns-in-Some-tail-clause-steps g c =
    let number = g.R.BitRegister.number in
    takes_first g.R.BitRegister.BITS g.O.BitAt.at_of (ap (domain_parts number) c.in-Region-None-default-default.is ∙ region_same (ap (optional_part number) (rw c.in-Region-None-default-default.is at c.in-Region-None-default-default.head-is)) (no_whole number _ c.in-None.ensures.cases) (ap (optional_part number) c.in-Some-tail.is)) c.default-in-None.ensures c.load_value-in-Some-tail.ensures (refl, (refl, λ _. zero-le))

pub returns-in-Some-tail-clause-goes : goal.returns-in-Some-tail-clause-goes
returns-in-Some-tail-clause-goes g c = record { on = λ _. (tt, tt, fewer_first (returns-in-Some-tail-clause-steps g c).0); keeps = tt; rests = λ _. tt }
