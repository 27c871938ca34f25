use Rattle.std.proofs.Common.{◌≡◌, arith, rules}
use Rattle.std.proofs.Output.{has_written_styled_append}
use Rattle.std.proofs.lemmas.Int.{ints}
use Rattle.std.specs.Int.{w64}
use mir.Val.{to_z, of_z}
use Rattle.bitvec_span.proofs.ptr.span.error.write_too_high_case.Goals as goal

pub returns : goal.returns
returns g c = λ flush ok.
    let same : to_z w64 (of_z w64 c.args.word) ≡ c.args.word = omega (arith, ints) in
    let case = c.in_ok-write_str.ensures.styled flush (search rules) in
    let word = rw same at c.in_ok-write_signed.ensures case.flush (search rules) in
    let end = c.write_str-2.ensures.styled word.flush ok in
    has_written_styled_append _ _ _ _ _ _ case (has_written_styled_append _ _ _ _ _ _ word end)
