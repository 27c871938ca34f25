use Rattle.std.proofs.Common.{rules, [], refl, ◌∙◌, append_assoc}
use Rattle.std.proofs.Output.{has_written_styled_nil, has_written_styled_append}
use Rattle.bitvec_slice.proofs.SliceTextLemmas.{numeral_digit}
use Rattle.bitvec_slice.proofs.slice.text.write_rest.Goals as goal

pub loop-bit-init : goal.loop-bit-init
loop-bit-init g c = λ flush. ([], (has_written_styled_nil _ _ flush, refl))

pub loop-bit-preserved : goal.loop-bit-preserved
loop-bit-preserved g c = λ flush.
    let p = c.loop-bit.invariant flush in
    let comma = c.in_ok-write_str.ensures.styled p.1.0.flush (search rules) in
    let digit = rw (c.digit_of.ensures, ← numeral_digit c.in-Some.bit) at c.in_ok-write_str-2.ensures.styled comma.flush (search rules) in
    let whole = rw c.in-Some.ensures.steps at p.1.1 in
    (_, (has_written_styled_append _ _ _ _ _ _ p.1.0 (has_written_styled_append _ _ _ _ _ _ comma digit), append_assoc p.0 _ _ ∙ whole))
