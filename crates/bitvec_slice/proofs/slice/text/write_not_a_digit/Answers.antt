use Rattle.std.proofs.Common.{rules}
use Rattle.std.proofs.Output.{has_written_styled_append}
use Rattle.bitvec_slice.proofs.slice.text.write_not_a_digit.Goals as goal

pub returns : goal.returns
returns g c = λ flush ok.
    let begin = c.in_ok-write_str.ensures.styled flush (search rules) in
    let at = c.in_ok-write_numeral.ensures.styled begin.flush (search rules) in
    let end = c.write_str-2.ensures.styled at.flush ok in
    has_written_styled_append _ _ _ _ _ _ begin (has_written_styled_append _ _ _ _ _ _ at end)
