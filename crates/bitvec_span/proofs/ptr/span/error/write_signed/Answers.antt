use Rattle.std.proofs.Common.{◌≡◌, pos, ◌<ℤ◌, ◌∙◌, ap, arith, rules}
use Rattle.std.proofs.Output.{has_written_styled_append}
use Rattle.std.proofs.lemmas.Int.{ints}
use Rattle.std.specs.Prelude.{nat_abs}
use Rattle.std.specs.Int.{w64}
use mir.Val.{to_z, of_z}
use Rattle.bitvec_span.proofs.TextLemmas.{signed_text-negative}
use Rattle.bitvec_span.proofs.ptr.span.error.write_signed.Goals as goal

pub returns-then-n-lt0 : goal.returns-then-n-lt0
returns-then-n-lt0 g c = λ flush ok.
    let negative : c.args.n <ℤ pos 0 = omega (arith, ints) in
    let same : c.unsigned_abs.result ≡ nat_abs c.args.n = c.unsigned_abs.ensures.value ∙ ap nat_abs (let e : to_z w64 (of_z w64 c.args.n) ≡ c.args.n = omega (arith, ints) in e) in
    let a = c.in_ok-write_str.ensures.styled flush (search rules) in
    let b = c.write_numeral.ensures.styled a.flush ok in
    rw (signed_text-negative c.args.n negative, ← same) (has_written_styled_append _ _ _ _ _ _ a b)
