use Rattle.std.proofs.Common.{◌+◌, ◌<◌, length, map, nat_abs, sym, ◌∙◌, arith}
use Rattle.bitvec_mem.specs.Digit.{count_below}
use Rattle.bitvec_order.proofs.CountLemmas.{count_none}
use Rattle.bitvec_ptr.specs.Memory.{bit_of}
use Rattle.bitvec_ptr.specs.Pairs.{pair_by}
use Rattle.bitvec_ptr.proofs.CopyLemmas.{met_covers}
use Rattle.bitvec_ptr.proofs.ptr.single.BitPtr.count_with.Goals as goal

pub returns-then-count-eq0 : goal.returns-then-count-eq0
returns-then-count-eq0 g c =
    let args = c.args in
    sym (count_none (pair_by g.C.Combine.of args.self g.O.BitAt.at_of args.memory.now args.other g.O2.BitAt.at_of args.other_memory.now) args.count
    (λ p h. absurd (omega (arith, h, c.if-count-eq0.true))))

pub count_pairs-requires-clause-from_in : goal.count_pairs-requires-clause-from_in
count_pairs-requires-clause-from_in g c =
    let R2 = g.R2.BitRegister in
    let some : 0 < R2.BITS = omega (arith, g.met.R2.BitRegister.width_at_least_8) in
    let more : 0 < c.args.count = omega arith in
    rw c.at-from.ensures.place
    (met_covers R2.BITS (nat_abs c.args.other.word) c.args.other.bit c.args.count (length c.args.other_memory.now) some more c.requires.there.1)

pub returns : goal.returns
returns g c =
    let R = g.R.BitRegister in
    let R2 = g.R2.BitRegister in
    let words = map R.number c.args.memory.now in
    let others = map R2.number c.args.other_memory.now in
    c.count_pairs.ensures
    ∙ (λ m. count_below (λ j. g.C.Combine.of (bit_of R.BITS g.O.BitAt.at_of words (c.at-to.ensures.place m + j))
    (bit_of R2.BITS g.O2.BitAt.at_of others (c.at-from.ensures.place m + j))) c.args.count)
