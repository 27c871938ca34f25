use Rattle.std.proofs.Common.{◌≡◌, ◌+◌, ◌-◌, ◌≤◌, ◌∙◌, ap, subst, arith, rules}
use Rattle.bitvec_order.specs.Order.{IsMaskOf}
use Rattle.bitvec_ptr.proofs.StretchMaskLemmas.{IsShiftedTwice, twice_rises, twice_falls}
use Rattle.bitvec_ptr.proofs.ptr.copy.gather.stretch_mask.Goals as goal
use Rattle.bitvec_ptr.proofs.ptr.copy.gather.stretch_mask.Goals.{then-rising, else-rising}

pub returns : goal.returns
returns g c =
    let bits = g.R.BitRegister.BITS in
    let number = g.R.BitRegister.number in
    let at = g.O.BitAt.at_of in
    let bit = c.args.bit in
    let count = c.args.count in
    let wide = c.BITS-2.ensures in
    let end = c.requires.end in
    let twice : c.if-rising.position + count ≤ bits → IsShiftedTwice bits c.if-rising.position count (number c.ALL.result) (number c.shr.result) (number c.shl.result) =
    λ fits. record {
      some = c.requires.some;
      fits = fits;
      ones = ap number c.ALL.ensures ∙ g.met.R.BitRegister.all_is_greatest;
      below = c.shl.ensures.below;
      shifted = rw c.BITS-2.ensures at c.shr.ensures.moved;
      past = rw c.BITS-2.ensures at c.shr.ensures.high;
      low = c.shl.ensures.low;
      moved = c.shl.ensures.moved;
    } in
    elim c.if-rising.branch [
      | then-rising w ↦
          subst (λ n. IsMaskOf bits at n (n + count) (number c.shl.result)) w.position-is
          (twice_rises (twice (omega (arith, w.position-is))) at (c.requires.rising (search rules)))
      | else-rising w ↦ (
          let is : c.if-rising.position ≡ bits - bit - count = w.position-is ∙ ap (λ n. n - bit - count) w.BITS.ensures in
          twice_falls (twice (omega (arith, is))) at (c.requires.falling (search rules)) bit (omega (arith, is)))
    ]
