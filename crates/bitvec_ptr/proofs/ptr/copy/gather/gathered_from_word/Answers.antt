use Rattle.std.proofs.Common.{◌-◌, arith}
use Rattle.bitvec_ptr.proofs.GatherLemmas.{IsCarriedFalling, falling_bits}
use Rattle.bitvec_ptr.proofs.ptr.copy.gather.gathered_from_word.Goals as goal

pub returns-in-Falling-clause-inside : goal.returns-in-Falling-clause-inside
returns-in-Falling-clause-inside g c =
    let falls = c.requires.falling c.in-Falling.is in
    let bits = g.R.BitRegister.BITS in
    let bits2 = g.R2.BitRegister.BITS in
    let from = c.args.from in
    let bit = c.args.bit in
    let count = c.args.count in
    let wide = c.BITS.ensures in
    let wide2 = c.BITS-in-Falling.ensures in
    let carried : IsCarriedFalling bits g.O.BitAt.at_of bits2 g.O2.BitAt.at_of from bit count
    (c.BITS.result - from - count) (c.BITS-in-Falling.result - bit - count)
    (g.R.BitRegister.number c.args.read)
    (g.R2.BitRegister.number c.carried-with-in-Falling.result) (g.R2.BitRegister.number c.with_stretch-in-Falling.result) =
    record {
      falls = falls.0;
      falls2 = falls.1;
      fits = c.requires.from_in;
      room = c.requires.bit_in;
      lowest_is = omega arith;
      position_is = omega arith;
      moved = c.carried-with-in-Falling.ensures;
      put = c.with_stretch-in-Falling.ensures.inside;
    } in
    falling_bits carried
