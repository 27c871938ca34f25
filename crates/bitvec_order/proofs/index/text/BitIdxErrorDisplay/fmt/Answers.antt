use Rattle.std.proofs.Common.{◌∙◌, rules}
use Rattle.std.proofs.Output.{has_written_styled_append}
use Rattle.bitvec_mem.proofs.StyledWrites.{WritesOnOk-from_styled}
use Rattle.bitvec_order.proofs.index.text.BitIdxErrorDisplay.fmt.Goals as goal

pub returns-clause-styled : goal.returns-clause-styled
returns-clause-styled g c = λ flush ok.
    let start = c.in_ok-write_str.ensures.styled flush (search rules) in
    let value = rw (c.from.ensures ∙ c.into_inner.ensures.value) at c.in_ok-write_numeral.ensures.styled start.flush (search rules) in
    let reason = c.in_ok-write_str-2.ensures.styled value.flush (search rules) in
    let name = rw c.name_text.ensures at c.in_ok-write_str-3.ensures.styled reason.flush (search rules) in
    let right = c.in_ok-write_str-4.ensures.styled name.flush (search rules) in
    let width = rw (c.from-2.ensures ∙ c.BITS.ensures) at c.in_ok-write_numeral-2.ensures.styled right.flush (search rules) in
    let end = c.write_str-5.ensures.styled width.flush ok in
    has_written_styled_append _ _ _ _ _ _ start (has_written_styled_append _ _ _ _ _ _ value (has_written_styled_append _ _ _ _ _ _ reason (has_written_styled_append _ _ _ _ _ _ name (has_written_styled_append _ _ _ _ _ _ right (has_written_styled_append _ _ _ _ _ _ width end)))))

pub returns-clause-writes : goal.returns-clause-writes
returns-clause-writes g c = WritesOnOk-from_styled _ _ _ _ _ (returns-clause-styled g c)
