use Rattle.std.proofs.Common.{◌+◌, ◌*◌, map, inl, inr}
use Rattle.std.proofs.lemmas.Bool.{cases_lt}
use Rattle.bitvec_ptr.specs.Pairs.{pair_of}
use Rattle.bitvec_ptr.proofs.PairLemmas.{HasPairs, pairs_none, pairs_first}
use Rattle.bitvec_ptr.proofs.ptr.copy.pairs.first_in_word.Goals as goal

pub overflow_sub-index : goal.overflow_sub-index
overflow_sub-index g c =
    let is = c.in-Some.ensures in
    elim (cases_lt c.in-Some.index c.args.bit) [
      | inl low ↦ absurd (let off = c.question_word-both.ensures.outside c.in-Some.index is.0 (inl low) in let on = is.1 in cc)
      | inr from ↦ from
    ]

pub returns-in-Some : goal.returns-in-Some
returns-in-Some g c =
    let R = g.R.BitRegister in
    let R2 = g.R2.BitRegister in
    let from = c.args.from in
    let both = c.question_word-both in
    let has : HasPairs R.BITS g.O.BitAt.at_of (pair_of g.C.Combine.of R.BITS g.O.BitAt.at_of (map R.number c.args.memory.now) (c.args.to * R.BITS + c.args.bit)
    R2.BITS g.O2.BitAt.at_of (map R2.number c.args.other.now) (from.word * R2.BITS + from.bit)) c.args.bit c.args.count (R.number both.result) =
    record { room = c.requires.bit_in; inside = both.ensures.inside; outside = both.ensures.outside } in
    (pairs_first has c.in-Some.index c.from.result c.from.ensures c.in-Some.ensures).1

pub returns-in-None : goal.returns-in-None
returns-in-None g c =
    let R = g.R.BitRegister in
    let R2 = g.R2.BitRegister in
    let from = c.args.from in
    let both = c.question_word-both in
    let has : HasPairs R.BITS g.O.BitAt.at_of (pair_of g.C.Combine.of R.BITS g.O.BitAt.at_of (map R.number c.args.memory.now) (c.args.to * R.BITS + c.args.bit)
    R2.BITS g.O2.BitAt.at_of (map R2.number c.args.other.now) (from.word * R2.BITS + from.bit)) c.args.bit c.args.count (R.number both.result) =
    record { room = c.requires.bit_in; inside = both.ensures.inside; outside = both.ensures.outside } in
    pairs_none has c.in-None.ensures
