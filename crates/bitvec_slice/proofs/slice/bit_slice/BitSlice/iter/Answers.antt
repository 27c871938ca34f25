use Rattle.std.proofs.Common.{◌≡◌, ◌+◌, ◌-◌, length, map, ap, subst, arith}
use Rattle.bitvec.specs.Span.{Span, list_of, span_range}
use Rattle.bitvec.proofs.PartLemmas.{length-list_of}
use Rattle.bitvec_slice.specs.BitSlice.{slice_memory, slice_span}
use Rattle.bitvec_slice.specs.Iter.{iter_left}
use Rattle.bitvec_slice.proofs.IterLemmas.{gives_in_order, gives_in_reverse, range_whole}
use Rattle.bitvec_slice.proofs.slice.bit_slice.BitSlice.iter.Goals as goal

pub returns-clause-span : goal.returns-clause-span
returns-clause-span g c =
    let slice = c.args.self.now in
    let span = slice_span slice in
    let bits = g.R.BitRegister.BITS in
    let start = c.head-head.result in
    let to = start + c.len.result - span.head in
    let none : 0 ≡ start - span.head = omega (arith, c.head-head.ensures) in
    subst (λ n. span_range bits span n to ≡ span) none
    (range_whole bits span to (omega (arith, slice.span.in_word, g.met.R.BitRegister.width_at_least_8)) (omega (arith, c.head-head.ensures, c.len.ensures.value)))

pub returns-clause-rest : goal.returns-clause-rest
returns-clause-rest g c = ap (λ (s : Span). list_of g.R.BitRegister.BITS g.O.BitAt.at_of s (map g.R.BitRegister.number (slice_memory c.args.self.now))) (returns-clause-span g c)

pub returns-clause-bound : goal.returns-clause-bound
returns-clause-bound g c =
    let slice = c.args.self.now in
    let long = length-list_of g.R.BitRegister.BITS g.O.BitAt.at_of (slice_span slice) (map g.R.BitRegister.number (slice_memory slice)) in
    omega (arith, slice.span.short, long, ap length (returns-clause-rest g c))

pub returns-clause-runs : goal.returns-clause-runs
returns-clause-runs g c = gives_in_order iter_left

pub returns-clause-runs_back : goal.returns-clause-runs_back
returns-clause-runs_back g c = gives_in_reverse iter_left
