use Rattle.std.proofs.Common.{◌∙◌, Bool, List, length, map, drop, ap, arith}
use Rattle.bitvec_slice.specs.BitSlice.{slice_memory}
use Rattle.bitvec_vec.proofs.vec.bit_vec.BitVec.split_off.Goals as goal

pub split_at-requires : goal.split_at-requires
split_at-requires g c =
    let slice = c.as_bitslice.result in
    let many = slice.many (map g.R.BitRegister.number (slice_memory slice)) in
    omega (arith, c.requires, many, ap (λ (xs : List Bool). length xs) c.as_bitslice.ensures.bits)

pub returns-clause-rest : goal.returns-clause-rest
returns-clause-rest g c =
    c.in_ok-rest.ensures.bits ∙ c.split_at.ensures.back ∙ ap (λ (xs : List Bool). drop c.args.at xs) c.as_bitslice.ensures.bits
