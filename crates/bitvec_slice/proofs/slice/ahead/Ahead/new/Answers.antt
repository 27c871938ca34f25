use Rattle.std.proofs.Common.{◌≡◌, ◌<◌, sym, ap, subst, ◌∙◌, arith}
use Rattle.bitvec_slice.specs.BitSlice.{slice_span, slice_len, slice_bits}
use Rattle.bitvec_slice.specs.Chosen.{IsChosen, chosen_end}
use Rattle.bitvec_slice.proofs.WordListLemmas.{chosen_empty}
use Rattle.bitvec_slice.proofs.slice.ahead.Ahead.new.Goals as goal
use Rattle.bitvec_slice.proofs.slice.ahead.Ahead.new.Goals.{then-upto-eq0, else-upto-eq0}

pub invariant_of-result-clause-chosen : goal.invariant_of-result-clause-chosen
invariant_of-result-clause-chosen g c =
    let slice = c.args.whole in
    let bits = g.R.BitRegister.BITS in
    let at = g.O.BitAt.at_of in
    let number = g.R.BitRegister.number in
    let head = (slice_span slice).head in
    let bit = c.args.bit in
    let small : head < bits = omega (arith, slice.span.in_word, g.met.R.BitRegister.width_at_least_8) in
    let upto : c.min-upto.result ≡ chosen_end c.len-end.result bits head (slice_len slice) 0 = omega (arith, c.min-upto.ensures, c.len-end.ensures.value, c.head.ensures, c.bits_of.ensures.value, small) in
    elim c.if-upto-eq0.branch [
      | then-upto-eq0 w ↦ (
          let none : 0 ≡ chosen_end c.len-end.result bits head (slice_len slice) 0 = sym w.if-upto-eq0.true ∙ upto in
          subst (λ n. IsChosen bits at head (slice_bits slice) 0 0 n bit (number c.if-upto-eq0.left)) none
          (chosen_empty bits at head (slice_bits slice) bit _ small (ap number (w.left-is ∙ w.ZERO-left.ensures) ∙ g.met.R.BitRegister.zero_is_0)))
      | else-upto-eq0 w ↦ subst (λ n. IsChosen bits at head (slice_bits slice) 0 0 n bit (number c.if-upto-eq0.left)) upto
          (subst (λ v. IsChosen bits at head (slice_bits slice) 0 0 c.min-upto.result bit (number v)) (sym w.left-is) w.chosen-left.ensures)
    ]
