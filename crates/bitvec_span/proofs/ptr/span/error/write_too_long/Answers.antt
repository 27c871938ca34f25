use Rattle.std.proofs.Common.{rules}
use Rattle.std.proofs.Output.{has_written_styled_append}
use Rattle.bitvec_span.proofs.ptr.span.error.write_too_long.Goals as goal

pub returns : goal.returns
returns g c = λ flush ok.
    let a = c.in_ok-write_str.ensures.styled flush (search rules) in
    let b = c.in_ok-write_numeral.ensures.styled a.flush (search rules) in
    let d = c.in_ok-write_str-2.ensures.styled b.flush (search rules) in
    let e = c.in_ok-write_numeral-2.ensures.styled d.flush (search rules) in
    let h = c.write_str-3.ensures.styled e.flush ok in
    has_written_styled_append _ _ _ _ _ _ a (has_written_styled_append _ _ _ _ _ _ b (has_written_styled_append _ _ _ _ _ _ d (has_written_styled_append _ _ _ _ _ _ e h)))
