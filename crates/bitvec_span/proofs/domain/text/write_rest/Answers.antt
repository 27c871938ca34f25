use Rattle.std.proofs.Common.{rules, [], refl, ◌∙◌, append_assoc}
use Rattle.std.proofs.Output.{has_written_styled_nil, has_written_styled_append}
use Rattle.bitvec_span.proofs.domain.text.write_rest.Goals as goal

pub loop-word-init : goal.loop-word-init
loop-word-init g c = λ flush. ([], (has_written_styled_nil _ _ flush, refl))

pub loop-word-preserved : goal.loop-word-preserved
loop-word-preserved g c = λ flush.
    let p = c.loop-word.invariant flush in
    let comma = c.in_ok-write_str.ensures.styled p.1.0.flush (search rules) in
    let number = rw c.to_u128.ensures.number at c.in_ok-write_numeral.ensures.styled comma.flush (search rules) in
    let whole = rw c.in-Some.ensures.steps.0 at p.1.1 in
    (_, (has_written_styled_append _ _ _ _ _ _ p.1.0 (has_written_styled_append _ _ _ _ _ _ comma number), append_assoc p.0 _ _ ∙ whole))
