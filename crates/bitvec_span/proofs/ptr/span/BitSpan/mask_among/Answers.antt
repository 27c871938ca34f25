use Rattle.std.proofs.Common.{ℕ, Some, ◌<◌, ◌≤◌, arith, rules}
use Rattle.bitvec_span.proofs.ptr.span.BitSpan.mask_among.Goals as goal

pub returns : goal.returns
returns g c =
    let width = g.R.BitRegister.BITS in
    let head : ℕ = c.bounds_among-head.result.0 in
    let tail : ℕ = c.bounds_among-head.result.1 in
    let head_in : head < width = omega arith in
    let tail_in : tail ≤ width = omega arith in
    let ordered : head ≤ tail = search (rules, arith) in
    rw (c.into_inner.ensures.value, c.mask.ensures, ← c.bounds_among-head.ensures.head, ← c.bounds_among-head.ensures.tail)
    (g.met.O.BitOrder.masks.sets (Some head) (Some tail) head_in tail_in ordered)
