use Rattle.std.proofs.Common.{rules, [], refl, ◌∙◌, append_assoc}
use Rattle.std.proofs.Output.{has_written_styled_nil, has_written_styled_append}
use Rattle.bitvec_slice.proofs.slice.text.write_digits.Goals as goal

pub loop-bit-init : goal.loop-bit-init
loop-bit-init g c = λ flush. ([], (has_written_styled_nil _ _ flush, refl))

pub loop-bit-preserved : goal.loop-bit-preserved
loop-bit-preserved g c = λ flush.
    let p = c.loop-bit.invariant flush in
    let digit = rw c.digit_of.ensures at c.in_ok-write_str.ensures.styled p.1.0.flush (search rules) in
    let whole = rw c.in-Some.ensures.steps at p.1.1 in
    (_, (has_written_styled_append _ _ _ _ _ _ p.1.0 digit, append_assoc p.0 _ _ ∙ whole))
