use Rattle.std.proofs.Common.{rules, sym, ◌∙◌}
use Rattle.std.proofs.Output.{has_written_styled_append}
use Rattle.bitvec_slice.proofs.SliceTextLemmas.{numeral_digit, plain_from_styled}
use Rattle.bitvec_slice.proofs.slice.text.write_list.Goals as goal

pub returns-clause-styled : goal.returns-clause-styled
returns-clause-styled g c = λ flush ok.
    let open_ = c.in_ok-write_str.ensures.styled flush (search rules) in
    let first = rw (c.digit_of.ensures, ← numeral_digit c.in-Some.first) at c.in_ok-write_str-2.ensures.styled open_.flush (search rules) in
    let rest = c.in_ok-write_rest.ensures first.flush (search rules) in
    let close = c.write_str-4.ensures.styled rest.flush ok in
    let all = has_written_styled_append _ _ _ _ _ _ open_ (has_written_styled_append _ _ _ _ _ _ (has_written_styled_append _ _ _ _ _ _ first rest) close) in
    rw (sym c.iter-rest.ensures.rest ∙ c.in-Some.ensures.steps) all

pub returns-clause-writes : goal.returns-clause-writes
returns-clause-writes g c = plain_from_styled _ _ _ _ _ (returns-clause-styled g c)
