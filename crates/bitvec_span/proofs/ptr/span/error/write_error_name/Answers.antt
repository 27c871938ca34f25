use Rattle.std.proofs.Common.{rules}
use Rattle.std.proofs.Output.{has_written_styled_append}
use Rattle.bitvec_span.proofs.ptr.span.error.write_error_name.Goals as goal

pub returns : goal.returns
returns g c = λ flush ok.
    let type = c.in_ok-write_str.ensures.styled flush (search rules) in
    let name = rw c.name_text.ensures at c.in_ok-write_str-2.ensures.styled type.flush (search rules) in
    let end = c.write_str-3.ensures.styled name.flush ok in
    has_written_styled_append _ _ _ _ _ _ type (has_written_styled_append _ _ _ _ _ _ name end)
