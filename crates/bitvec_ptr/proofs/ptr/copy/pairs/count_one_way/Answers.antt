use Rattle.std.proofs.Common.{◌+◌, ◌*◌, length, map, refl, arith}
use Rattle.bitvec_ptr.proofs.CopyLemmas.{place_below}
use Rattle.bitvec_ptr.proofs.GatherLemmas.{allows_elsewhere}
use Rattle.bitvec_ptr.proofs.PairLemmas.{IsCut, parts_of, pair_on, count_joined, count_small}
use Rattle.bitvec_ptr.proofs.ptr.copy.pairs.count_one_way.Goals as goal

pub sections_of-sections-requires-clause-inside : goal.sections_of-sections-requires-clause-inside
sections_of-sections-requires-clause-inside g c =
    let R2 = g.R2.BitRegister in
    let from = c.args.from in
    place_below R2.BITS (from.word * R2.BITS + from.bit + c.args.count) (length c.args.other.now)
    (omega (arith, g.met.R2.BitRegister.width_at_least_8)) c.requires.from_in (omega arith)

pub count_word-head-requires-clause-some : goal.count_word-head-requires-clause-some
count_word-head-requires-clause-some g c =
    let cut = c.sections_of-sections.ensures in
    omega (arith, cut.first, c.args.to.in_word, g.met.R.BitRegister.width_at_least_8)

pub count_word-head-requires-clause-way : goal.count_word-head-requires-clause-way
count_word-head-requires-clause-way g c = c.requires.way

pub count_row-body-requires-clause-way : goal.count_row-body-requires-clause-way
count_row-body-requires-clause-way g c =
    allows_elsewhere _ _ _ _ _ _ _ _ _ c.requires.way c.sections_of-sections.ensures.middle_starts

pub count_word-tail-requires-clause-way : goal.count_word-tail-requires-clause-way
count_word-tail-requires-clause-way g c =
    allows_elsewhere _ _ _ _ _ _ _ _ _ c.requires.way c.sections_of-sections.ensures.end_starts

pub overflow_add-result : goal.overflow_add-result
overflow_add-result g c =
    let cut = c.sections_of-sections.ensures in
    omega (arith, cut.first, cut.all, count_small _ _ c.count_word-head.ensures, count_small _ _ c.count_row-body.ensures)

pub overflow_add-result-2 : goal.overflow_add-result-2
overflow_add-result-2 g c =
    let cut = c.sections_of-sections.ensures in
    omega (
      arith,
      cut.first,
      cut.all,
      count_small _ _ c.count_word-head.ensures,
      count_small _ _ c.count_row-body.ensures,
      count_small _ _ c.count_word-tail.ensures,
    )

pub returns : goal.returns
returns g c =
    let R = g.R.BitRegister in
    let R2 = g.R2.BitRegister in
    let to = c.args.to in
    let from = c.args.from in
    let sections = c.sections_of-sections.result in
    let cut = c.sections_of-sections.ensures in
    let is : IsCut R.BITS to.word to.bit (from.word * R2.BITS + from.bit) sections.first sections.whole sections.last
    (sections.middle.word * R2.BITS + sections.middle.bit) (sections.end.word * R2.BITS + sections.end.bit) c.args.count =
    record {
      inside = omega (arith, to.in_word, g.met.R.BitRegister.width_at_least_8);
      first_is = cut.first;
      all_is = cut.all;
      middle_is = cut.middle;
      end_is = cut.end;
    } in
    let parts = parts_of is in
    let on = pair_on g.C.Combine.of R.BITS g.O.BitAt.at_of (map R.number c.args.memory.now) R2.BITS g.O2.BitAt.at_of (map R2.number c.args.other.now) in
    let front = sections.first + sections.whole * R.BITS in
    count_joined _ _ _ _ c.args.count parts.all
    (count_joined _ _ _ _ front refl c.count_word-head.ensures c.count_row-body.ensures (on _ _ _ _ _ parts.here parts.there))
    c.count_word-tail.ensures (on _ _ _ _ _ parts.here_end parts.there_end)
