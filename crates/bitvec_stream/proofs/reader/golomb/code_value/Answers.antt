use Rattle.std.proofs.Common.{◌≤◌, ◌^◌, arith}
use Rattle.std.proofs.Math.Pow.{pow_mono}
use Rattle.bitvec_stream.proofs.reader.golomb.code_value.Goals as goal

pub returns-in-None : goal.returns-in-None
returns-in-None g c =
    let most : 2 ^ g.N.BitRegister.BITS ≤ 2 ^ 128 = pow_mono g.met.N.BitRegister.width_at_most_128 in
    omega (arith, most, c.in-None.ensures)
