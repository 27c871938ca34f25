use Rattle.std.proofs.Common.{◌-◌, arith}
use Rattle.bitvec_slice.specs.BitSlice.{slice_bits}
use Rattle.bitvec_stream.specs.Numbers.{number_be}
use Rattle.bitvec_stream.proofs.SignedGolombLemmas.{lacking_beyond}
use Rattle.bitvec_stream.proofs.reader.golomb.signed_code_number.Goals as goal

pub returns-in-Some-eq340282366920938463463374607431768211455 : goal.returns-in-Some-eq340282366920938463463374607431768211455
returns-in-Some-eq340282366920938463463374607431768211455 g c =
    let above = number_be (slice_bits c.args.digits) in
    lacking_beyond (above - 1) (omega (arith, c.in-Some-eq340282366920938463463374607431768211455.ensures)) (λ is. omega (arith, is, c.in-Some-eq340282366920938463463374607431768211455.ensures))

pub returns-in-None-2 : goal.returns-in-None-2
returns-in-None-2 g c =
    let above = number_be (slice_bits c.args.digits) in
    lacking_beyond (above - 1) (omega (arith, c.in-None.ensures)) (λ is. let least = c.is_least.ensures.1 (omega (arith, is, c.in-None.ensures)) in let not = c.if-is_least.false in cc)
