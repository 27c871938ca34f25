use Rattle.std.proofs.Common.{rules}
use Rattle.std.proofs.Output.{has_written_styled_append}
use Rattle.bitvec_slice.proofs.slice.text.write_other_length.Goals as goal

pub returns : goal.returns
returns g c = λ flush ok.
    let digits = c.in_ok-write_numeral.ensures.styled flush (search rules) in
    let end = c.write_str.ensures.styled digits.flush ok in
    has_written_styled_append _ _ _ _ _ _ digits end
