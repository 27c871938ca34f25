use Rattle.std.proofs.Common.{rules}
use Rattle.std.specs.Prelude.{FitsSigned}
use Rattle.std.specs.Int.{w128}
use Rattle.bitvec_slice.specs.Signed.{signed_of}
use Rattle.bitvec_slice.proofs.SignedLemmas.{passed_digits}
use Rattle.bitvec_slice.proofs.field.signed.signed_value.Goals as goal

pub unwrap-requires : goal.unwrap-requires
unwrap-requires g c =
    let fits : FitsSigned w128 c.signed_number.result = search rules in
    c.from_i128.ensures.accepted.1 (passed_digits c.args.len g.N.SignedNumber.BITS c.signed_number.result (signed_of c.args.len c.args.digits) fits c.signed_number.ensures.value c.requires.wide c.signed_number.ensures.fits)
