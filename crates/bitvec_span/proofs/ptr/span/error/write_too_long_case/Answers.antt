use Rattle.std.proofs.Common.{rules}
use Rattle.std.proofs.Output.{has_written_styled_append}
use Rattle.bitvec_span.proofs.ptr.span.error.write_too_long_case.Goals as goal

pub returns : goal.returns
returns g c = λ flush ok.
    let case = c.in_ok-write_str.ensures.styled flush (search rules) in
    let bits = c.in_ok-write_numeral.ensures.styled case.flush (search rules) in
    let end = c.write_str-2.ensures.styled bits.flush ok in
    has_written_styled_append _ _ _ _ _ _ case (has_written_styled_append _ _ _ _ _ _ bits end)
