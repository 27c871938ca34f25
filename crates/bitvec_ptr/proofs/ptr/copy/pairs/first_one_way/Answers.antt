use Rattle.std.proofs.Common.{◌+◌, ◌-◌, ◌*◌, ◌≤◌, length, map, refl, ap, sym, ◌∙◌, arith}
use Rattle.bitvec_ptr.proofs.CopyLemmas.{place_below}
use Rattle.bitvec_ptr.proofs.GatherLemmas.{allows_elsewhere}
use Rattle.bitvec_ptr.proofs.PairLemmas.{IsCut, parts_of, pair_on, none_joined, first_joined, first_earlier}
use Rattle.bitvec_ptr.proofs.ptr.copy.pairs.first_one_way.Goals as goal

pub sections_of-sections-requires-clause-inside : goal.sections_of-sections-requires-clause-inside
sections_of-sections-requires-clause-inside g c =
    let R2 = g.R2.BitRegister in
    let from = c.args.from in
    place_below R2.BITS (from.word * R2.BITS + from.bit + c.args.count) (length c.args.other.now)
    (omega (arith, g.met.R2.BitRegister.width_at_least_8)) c.requires.from_in (omega arith)

pub first_in_word-head-requires-clause-some : goal.first_in_word-head-requires-clause-some
first_in_word-head-requires-clause-some g c =
    let cut = c.sections_of-sections.ensures in
    omega (arith, cut.first, c.args.to.in_word, g.met.R.BitRegister.width_at_least_8)

pub first_in_word-head-requires-clause-way : goal.first_in_word-head-requires-clause-way
first_in_word-head-requires-clause-way g c = c.requires.way

pub returns-in-Some : goal.returns-in-Some
returns-in-Some g c =
    let cut = c.sections_of-sections.ensures in
    first_earlier _ _ _ _ (omega (arith, cut.first, cut.all)) c.in-Some.ensures

pub first_in_row-body-requires-clause-way : goal.first_in_row-body-requires-clause-way
first_in_row-body-requires-clause-way g c =
    allows_elsewhere _ _ _ _ _ _ _ _ _ c.requires.way c.sections_of-sections.ensures.middle_starts

pub returns-in-Some-body : goal.returns-in-Some-body
returns-in-Some-body g c =
    let R = g.R.BitRegister in
    let R2 = g.R2.BitRegister in
    let to = c.args.to in
    let from = c.args.from in
    let sections = c.sections_of-sections.result in
    let cut = c.sections_of-sections.ensures in
    let is : IsCut R.BITS to.word to.bit (from.word * R2.BITS + from.bit) sections.first sections.whole sections.last
    (sections.middle.word * R2.BITS + sections.middle.bit) (sections.end.word * R2.BITS + sections.end.bit) c.args.count =
    record {
      inside = omega (arith, to.in_word, g.met.R.BitRegister.width_at_least_8);
      first_is = cut.first;
      all_is = cut.all;
      middle_is = cut.middle;
      end_is = cut.end;
    } in
    let parts = parts_of is in
    let on = pair_on g.C.Combine.of R.BITS g.O.BitAt.at_of (map R.number c.args.memory.now) R2.BITS g.O2.BitAt.at_of (map R2.number c.args.other.now) in
    let front = sections.first + sections.whole * R.BITS in
    let some : front ≤ c.args.count = omega (arith, parts.all) in
    first_earlier _ front c.args.count _ some
    (first_joined _ _ sections.first (sections.whole * R.BITS) c.in-Some-body.i front _ refl (ap (λ n. n + c.in-Some-body.i) c.from.ensures)
    (on _ _ _ _ _ parts.here parts.there) c.in_default.ensures c.in-Some-body.ensures)

pub first_in_word-tail-requires-clause-way : goal.first_in_word-tail-requires-clause-way
first_in_word-tail-requires-clause-way g c =
    allows_elsewhere _ _ _ _ _ _ _ _ _ c.requires.way c.sections_of-sections.ensures.end_starts

pub returns-in-Some-tail : goal.returns-in-Some-tail
returns-in-Some-tail g c =
    let R = g.R.BitRegister in
    let R2 = g.R2.BitRegister in
    let to = c.args.to in
    let from = c.args.from in
    let sections = c.sections_of-sections.result in
    let cut = c.sections_of-sections.ensures in
    let is : IsCut R.BITS to.word to.bit (from.word * R2.BITS + from.bit) sections.first sections.whole sections.last
    (sections.middle.word * R2.BITS + sections.middle.bit) (sections.end.word * R2.BITS + sections.end.bit) c.args.count =
    record {
      inside = omega (arith, to.in_word, g.met.R.BitRegister.width_at_least_8);
      first_is = cut.first;
      all_is = cut.all;
      middle_is = cut.middle;
      end_is = cut.end;
    } in
    let parts = parts_of is in
    let on = pair_on g.C.Combine.of R.BITS g.O.BitAt.at_of (map R.number c.args.memory.now) R2.BITS g.O2.BitAt.at_of (map R2.number c.args.other.now) in
    let front = sections.first + sections.whole * R.BITS in
    let passed = none_joined _ _ sections.first (sections.whole * R.BITS) front refl (on _ _ _ _ _ parts.here parts.there) c.in_default.ensures
    c.in_default-body.ensures in
    let place = ap (λ n. c.args.count - n + c.in-Some-tail.i) c.from-in-Some-tail.ensures ∙ ap (λ n. n + c.in-Some-tail.i) (sym parts.front) in
    first_joined _ _ front sections.last c.in-Some-tail.i c.args.count _ parts.all place (on _ _ _ _ _ parts.here_end parts.there_end) passed
    c.in-Some-tail.ensures

pub returns-in-None : goal.returns-in-None
returns-in-None g c =
    let R = g.R.BitRegister in
    let R2 = g.R2.BitRegister in
    let to = c.args.to in
    let from = c.args.from in
    let sections = c.sections_of-sections.result in
    let cut = c.sections_of-sections.ensures in
    let is : IsCut R.BITS to.word to.bit (from.word * R2.BITS + from.bit) sections.first sections.whole sections.last
    (sections.middle.word * R2.BITS + sections.middle.bit) (sections.end.word * R2.BITS + sections.end.bit) c.args.count =
    record {
      inside = omega (arith, to.in_word, g.met.R.BitRegister.width_at_least_8);
      first_is = cut.first;
      all_is = cut.all;
      middle_is = cut.middle;
      end_is = cut.end;
    } in
    let parts = parts_of is in
    let on = pair_on g.C.Combine.of R.BITS g.O.BitAt.at_of (map R.number c.args.memory.now) R2.BITS g.O2.BitAt.at_of (map R2.number c.args.other.now) in
    let front = sections.first + sections.whole * R.BITS in
    let passed = none_joined _ _ sections.first (sections.whole * R.BITS) front refl (on _ _ _ _ _ parts.here parts.there) c.in_default.ensures
    c.in_default-body.ensures in
    none_joined _ _ front sections.last c.args.count parts.all (on _ _ _ _ _ parts.here_end parts.there_end) passed c.in-None.ensures
