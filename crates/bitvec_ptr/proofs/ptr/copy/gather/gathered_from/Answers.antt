use Rattle.std.proofs.Common.{◌<◌, ◌≤◌, map, arith}
use Rattle.bitvec_ptr.proofs.GatherLemmas.{IsFromPair, pair_bits}
use Rattle.bitvec_ptr.proofs.ptr.copy.gather.gathered_from.Goals as goal

pub returns-clause-inside : goal.returns-clause-inside
returns-clause-inside g c =
    let R = g.R.BitRegister in
    let from = c.args.from in
    let pair = c.pair_from-low in
    let most : from.bit < R.BITS = omega (arith, g.met.R.BitRegister.width_at_least_8) in
    let end : c.args.count ≤ R.BITS = omega arith in
    let both : IsFromPair R.BITS g.O.BitAt.at_of g.O2.BitAt.at_of from.bit c.args.bit c.args.count
    (g.R2.BitRegister.number c.gathered_from_pair.result) (R.number pair.result.0) (R.number pair.result.1) =
    record { most = most; end = end; first = c.gathered_from_pair.ensures.low; second = c.gathered_from_pair.ensures.high } in
    pair_bits both (map R.number c.args.source.now) from.word pair.ensures.low pair.ensures.high
