use Rattle.std.proofs.Common.{◌-◌, ap, ◌∙◌, arith}
use Rattle.std.proofs.lemmas.List.{take_all}
use Rattle.bitvec_slice.specs.BitSlice.{slice_bits}
use Rattle.bitvec_stream.specs.Numbers.{number_be}
use Rattle.bitvec_stream.proofs.number.load_be.Goals as goal

pub returns : goal.returns
returns g c =
    let xs = slice_bits c.args.part in
    c.load_digits_be.ensures ∙ ap number_be (take_all (c.len.result - 0) xs (omega (arith, c.len.ensures.list)))
