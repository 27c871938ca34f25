use Rattle.std.proofs.Common.{◌+◌, ◌*◌, map, ◌∙◌}
use Rattle.bitvec_ptr.specs.Pairs.{pair_of}
use Rattle.bitvec_ptr.proofs.PairLemmas.{HasPairs, pairs_counted}
use Rattle.bitvec_ptr.proofs.ptr.copy.pairs.count_word.Goals as goal

pub returns : goal.returns
returns g c =
    let R = g.R.BitRegister in
    let R2 = g.R2.BitRegister in
    let from = c.args.from in
    let pairs = pair_of g.C.Combine.of R.BITS g.O.BitAt.at_of (map R.number c.args.memory.now) (c.args.to * R.BITS + c.args.bit) R2.BITS g.O2.BitAt.at_of
    (map R2.number c.args.other.now) (from.word * R2.BITS + from.bit) in
    let both = c.question_word-both in
    let has : HasPairs R.BITS g.O.BitAt.at_of pairs c.args.bit c.args.count (R.number both.result) =
    record { room = c.requires.bit_in; inside = both.ensures.inside; outside = both.ensures.outside } in
    c.count_ones.ensures.count ∙ pairs_counted has g.met.O.BitOrder.one_to_one c.count_ones.ensures.below
