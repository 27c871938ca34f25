use Rattle.std.proofs.Common.{◌-◌, ◌+◌, ◌%◌, ◌≤◌, sym, ◌∙◌, arith}
use Rattle.std.proofs.lemmas.Nat.{mod_below}
use Rattle.bitvec_ptr.proofs.PlaceLemmas.{met_split, words_met-none}
use Rattle.bitvec_ptr.proofs.StepLemmas.{quotient_small}
use Rattle.bitvec_ptr.proofs.ptr.single.BitPtr.elements.Goals as goal

pub returns-then-count-eq0 : goal.returns-then-count-eq0
returns-then-count-eq0 g c = sym (words_met-none g.R.BitRegister.BITS c.args.self.bit c.args.count c.if-count-eq0.true)

pub overflow_add-over : goal.overflow_add-over
overflow_add-over g c =
    let width = c.from-width.result in
    let wide : 8 ≤ width = omega (arith, c.from-width.ensures ∙ c.BITS.ensures, g.met.R.BitRegister.width_at_least_8) in
    let over = mod_below (c.args.count - 1) width (omega arith) in
    omega (arith, over, c.from.ensures, c.from-width.ensures, c.BITS.ensures)

pub overflow_add-result : goal.overflow_add-result
overflow_add-result g c =
    let width = c.from-width.result in
    let wide : 8 ≤ width = omega (arith, c.from-width.ensures ∙ c.BITS.ensures, g.met.R.BitRegister.width_at_least_8) in
    let over = mod_below (c.args.count - 1) width (omega arith) in
    let whole = quotient_small (c.args.count - 1) width wide (omega arith) in
    let last = quotient_small (c.from.result + (c.args.count - 1) % width) width wide (omega (arith, over, c.from.ensures, c.from-width.ensures, c.BITS.ensures)) in
    omega (arith, whole, last)

pub overflow_add-result-2 : goal.overflow_add-result-2
overflow_add-result-2 g c =
    let width = c.from-width.result in
    let wide : 8 ≤ width = omega (arith, c.from-width.ensures ∙ c.BITS.ensures, g.met.R.BitRegister.width_at_least_8) in
    let over = mod_below (c.args.count - 1) width (omega arith) in
    let whole = quotient_small (c.args.count - 1) width wide (omega arith) in
    let last = quotient_small (c.from.result + (c.args.count - 1) % width) width wide (omega (arith, over, c.from.ensures, c.from-width.ensures, c.BITS.ensures)) in
    omega (arith, whole, last)

pub returns : goal.returns
returns g c =
    met_split g.R.BitRegister.BITS c.from-width.result c.args.self.bit c.from.result c.args.count (c.from-width.ensures ∙ c.BITS.ensures)
    c.from.ensures (omega (arith, g.met.R.BitRegister.width_at_least_8)) (omega arith)
