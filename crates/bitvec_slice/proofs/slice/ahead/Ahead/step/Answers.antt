use Rattle.std.proofs.Common.{◌≡◌, ◌+◌, ◌-◌, ◌*◌, arith}
use Rattle.bitvec_slice.specs.BitSlice.{slice_span}
use Rattle.bitvec_slice.proofs.WordListLemmas.{chosen_behind, found_at, found_first, found_place}
use Rattle.bitvec_slice.proofs.slice.ahead.Ahead.step.Goals as goal

pub overflow_add-i : goal.overflow_add-i
overflow_add-i g c =
    let slice = c.args.self.now.slice in
    let inside = c.args.self.now.inside in
    let place = found_place (found_at c.in_ok-found.ensures.1 c.in_ok-index.index c.in_ok-index.ensures) in
    omega (arith, c.in_ok-found.ensures.0, c.from.ensures, place.1, inside, slice.span.short, slice.span.in_word, g.met.R.BitRegister.width_at_most_128)

pub overflow_sub-i : goal.overflow_sub-i
overflow_sub-i g c =
    let place = found_place (found_at c.in_ok-found.ensures.1 c.in_ok-index.index c.in_ok-index.ensures) in
    omega (arith, c.in_ok-found.ensures.0, c.from.ensures, c.head.ensures, place.0)

pub overflow_add-self : goal.overflow_add-self
overflow_add-self g c =
    let slice = c.args.self.now.slice in
    let inside = c.args.self.now.inside in
    let place = found_place (found_at c.in_ok-found.ensures.1 c.in_ok-index.index c.in_ok-index.ensures) in
    omega (arith, c.in_ok-found.ensures.0, c.from.ensures, c.head.ensures, place.0, place.1, inside, slice.span.short)

pub invariant_of-self : goal.invariant_of-self
invariant_of-self g c =
    let it = c.in_ok-found.found in
    let i = c.in_ok-index.index in
    let f = found_at c.in_ok-found.ensures.1 i c.in_ok-index.ensures in
    let is : it.1 + c.from.result - c.head.result ≡ it.0 * g.R.BitRegister.BITS + i - (slice_span c.args.self.now.slice).head = omega (arith, c.in_ok-found.ensures.0, c.from.ensures, c.head.ensures) in
    let first = found_first f _ is in
    record {
      inside = c.args.self.now.inside;
      starts = c.in_ok-found.ensures.0;
      ordered = omega (arith, first.1);
      chosen = chosen_behind f.chosen g.met.O.BitOrder.one_to_one i _ _ f.first is c.turned_at-self.ensures;
    }

pub returns-clause-first : goal.returns-clause-first
returns-clause-first g c =
    let it = c.in_ok-found.found in
    let i = c.in_ok-index.index in
    let f = found_at c.in_ok-found.ensures.1 i c.in_ok-index.ensures in
    let is : it.1 + c.from.result - c.head.result ≡ it.0 * g.R.BitRegister.BITS + i - (slice_span c.args.self.now.slice).head = omega (arith, c.in_ok-found.ensures.0, c.from.ensures, c.head.ensures) in
    let first = found_first f _ is in
    (first.0, omega (arith, first.1), first.2, first.3)
