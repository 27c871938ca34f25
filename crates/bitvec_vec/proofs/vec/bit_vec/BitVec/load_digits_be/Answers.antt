use Rattle.std.proofs.Common.{◌∙◌, Bool, List, length, map, ap, arith}
use Rattle.std.specs.Prelude.{slice_range}
use Rattle.bitvec_slice.specs.BitSlice.{slice_memory}
use Rattle.bitvec_slice.specs.Numbers.{number_be}
use Rattle.bitvec_vec.proofs.vec.bit_vec.BitVec.load_digits_be.Goals as goal

pub load_digits_be-requires-clause-inside : goal.load_digits_be-requires-clause-inside
load_digits_be-requires-clause-inside g c =
    let slice = c.as_bitslice.result in
    let many = slice.many (map g.R.BitRegister.number (slice_memory slice)) in
    omega (arith, c.requires.inside, many, ap (λ (xs : List Bool). length xs) c.as_bitslice.ensures.bits)

pub returns : goal.returns
returns g c = c.load_digits_be.ensures ∙ ap (λ (xs : List Bool). number_be (slice_range xs c.args.from c.args.to)) c.as_bitslice.ensures.bits
