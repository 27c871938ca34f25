use Rattle.std.proofs.Common.{◌≡◌, arith, rules}
use Rattle.std.proofs.Output.{has_written_styled_append}
use Rattle.std.proofs.lemmas.Int.{ints}
use Rattle.std.specs.Int.{w64}
use mir.Val.{to_z, of_z}
use Rattle.bitvec_span.proofs.ptr.span.error.write_too_high.Goals as goal

pub returns : goal.returns
returns g c = λ flush ok.
    let same : to_z w64 (of_z w64 c.args.word) ≡ c.args.word = omega (arith, ints) in
    let a = c.in_ok-write_str.ensures.styled flush (search rules) in
    let b = rw same at c.in_ok-write_signed.ensures a.flush (search rules) in
    let d = c.write_str-2.ensures.styled b.flush ok in
    has_written_styled_append _ _ _ _ _ _ a (has_written_styled_append _ _ _ _ _ _ b d)
