use Rattle.std.proofs.Common.{rules}
use Rattle.std.proofs.Output.{has_written_styled_append}
use Rattle.bitvec_mem.proofs.StyledWrites.{WritesOnOk-from_styled}
use Rattle.bitvec_span.proofs.domain.text.write_items.Goals as goal

pub returns-clause-styled : goal.returns-clause-styled
returns-clause-styled g c = λ flush ok.
    let open_ = c.in_ok-write_str.ensures.styled flush (search rules) in
    let first = rw c.to_u128.ensures.number at c.in_ok-write_numeral.ensures.styled open_.flush (search rules) in
    let rest = c.in_ok-write_rest.ensures first.flush (search rules) in
    let close = c.write_str-3.ensures.styled rest.flush ok in
    let all = has_written_styled_append _ _ _ _ _ _ open_ (has_written_styled_append _ _ _ _ _ _ (has_written_styled_append _ _ _ _ _ _ first rest) close) in
    rw c.in-Some.ensures.steps.0 all

pub returns-clause-writes : goal.returns-clause-writes
returns-clause-writes g c = WritesOnOk-from_styled _ _ _ _ _ (returns-clause-styled g c)
