use Rattle.std.proofs.Common.{rules}
use Rattle.std.proofs.Output.{has_written_styled_append}
use Rattle.bitvec_mem.proofs.StyledWrites.{WritesOnOk-from_styled}
use Rattle.bitvec_order.proofs.index.text.write_debug.Goals as goal

pub returns-clause-styled : goal.returns-clause-styled
returns-clause-styled g c = λ flush ok.
    let type = c.in_ok-write_str.ensures.styled flush (search rules) in
    let left = c.in_ok-write_str-2.ensures.styled type.flush (search rules) in
    let name = rw c.name_text.ensures at c.in_ok-write_str-3.ensures.styled left.flush (search rules) in
    let right = c.in_ok-write_str-4.ensures.styled name.flush (search rules) in
    let digits = c.in_ok-write_numeral.ensures.styled right.flush (search rules) in
    let end = c.write_str-5.ensures.styled digits.flush ok in
    has_written_styled_append _ _ _ _ _ _ type (has_written_styled_append _ _ _ _ _ _ left (has_written_styled_append _ _ _ _ _ _ name (has_written_styled_append _ _ _ _ _ _ right (has_written_styled_append _ _ _ _ _ _ digits end))))

pub returns-clause-writes : goal.returns-clause-writes
returns-clause-writes g c = WritesOnOk-from_styled _ _ _ _ _ (returns-clause-styled g c)
