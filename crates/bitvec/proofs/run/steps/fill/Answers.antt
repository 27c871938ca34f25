use Rattle.std.proofs.Common.{◌≡◌, ◌-◌, ◌≤◌, ◌++◌, map, take, drop, replicate, ap, refl, arith, rules}
use Rattle.bitvec_span.specs.Span.{Span, list_of}
use Rattle.bitvec_span.specs.BitSpan.{span_of}
use Rattle.bitvec_span.proofs.BecomesLemmas.{fits-numbers, becomes-same}
use Rattle.bitvec.proofs.CommandLemmas.{past-fill, step-fill}
use Rattle.bitvec.proofs.run.steps.fill.Goals as goal

pub returns-then-can_fill : goal.returns-then-can_fill
returns-then-can_fill g c =
    let width = g.R.BitRegister.BITS in
    let at = g.O.BitAt.at_of in
    let number = g.R.BitRegister.number in
    let span = span_of c.args.span in
    let old = map number c.args.memory.now in
    let new = map number c.fill.new.memory in
    let within = c.if-can_fill.ensures.0 (search rules) in
    let fits = fits-numbers width span number c.args.memory.now c.requires in
    let xs = list_of width at span old in
    let many : c.range.result.len ≡ c.args.to - c.args.from = ap (λ (s : Span). s.len) c.range.ensures.span in
    step-fill number width at span old new c.args.from c.args.to c.args.value within.0 (omega (arith, c.len.ensures, within.1))
    (becomes-same width at span old new _ _ (ap (λ n. take c.args.from xs ++ replicate n c.args.value ++ drop c.args.to xs) many)
    (c.range.ensures.edits at old new _ fits c.fill.ensures))

pub returns-else-can_fill : goal.returns-else-can_fill
returns-else-can_fill g c =
    let number = g.R.BitRegister.number in
    let words = map number c.args.memory.now in
    let never : c.args.from ≤ c.args.to → c.args.to ≤ c.args.span.len → ⊥ = λ p q.
    let yes = c.if-can_fill.ensures.1 (p, omega (arith, c.len.ensures, q)) in
    search rules in
    past-fill number g.R.BitRegister.BITS g.O.BitAt.at_of (span_of c.args.span) words words c.args.from c.args.to c.args.value never refl

pub range-requires-clause-ordered : goal.range-requires-clause-ordered
range-requires-clause-ordered g c = (c.if-can_fill.ensures.0 refl).0

pub range-requires-clause-inside : goal.range-requires-clause-inside
range-requires-clause-inside g c = omega (arith, c.len.ensures, (c.if-can_fill.ensures.0 refl).1)

pub fill-requires : goal.fill-requires
fill-requires g c = c.range.ensures.fit _ c.requires
