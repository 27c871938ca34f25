use Rattle.std.proofs.Common.{◌≡◌, ◌+◌, ◌*◌, ◌<◌, length, refl, sym, arith}
use Rattle.bitvec_ptr.proofs.CopyLemmas.{place_below}
use Rattle.bitvec_ptr.proofs.GatherLemmas.{allows_elsewhere}
use Rattle.bitvec_ptr.proofs.WriterJoins.{has_combined_as, joined_rising_within}
use Rattle.bitvec_ptr.proofs.ptr.copy.words.combine_rising_within.Goals as goal

pub returns-then-is_in_one_word : goal.returns-then-is_in_one_word
returns-then-is_in_one_word g c =
    has_combined_as refl refl refl refl (sym (c.is_in_one_word.ensures.met c.if-is_in_one_word.true)) c.combine_word_within.ensures

pub sections_of-sections-requires-clause-inside : goal.sections_of-sections-requires-clause-inside
sections_of-sections-requires-clause-inside g c =
    let R = g.R.BitRegister in
    place_below R.BITS (c.args.from.word * R.BITS + c.args.from.bit + c.args.count) (length c.args.writer.now.words.now)
    (omega (arith, g.met.R.BitRegister.width_at_least_8)) c.requires.from_in (omega arith)

pub combine_row_rising_within-requires-clause-way : goal.combine_row_rising_within-requires-clause-way
combine_row_rising_within-requires-clause-way g c =
    let sections = c.sections_of-sections in
    allows_elsewhere c.args.way g.R.BitRegister.BITS g.O.BitAt.at_of g.R.BitRegister.BITS g.O.BitAt.at_of c.args.from.bit c.args.to.bit
    sections.result.middle.bit 0 c.requires.way (sections.ensures.middle_starts)

pub combine_word_within-requires-3-clause-way : goal.combine_word_within-requires-3-clause-way
combine_word_within-requires-3-clause-way g c =
    let sections = c.sections_of-sections in
    allows_elsewhere c.args.way g.R.BitRegister.BITS g.O.BitAt.at_of g.R.BitRegister.BITS g.O.BitAt.at_of c.args.from.bit c.args.to.bit
    sections.result.end.bit 0 c.requires.way (sections.ensures.end_starts)

pub returns : goal.returns
returns g c =
    let R = g.R.BitRegister in
    let sections = c.sections_of-sections.result in
    let cut = c.sections_of-sections.ensures in
    let inside : c.args.to.bit < R.BITS = omega (arith, c.args.to.in_word, g.met.R.BitRegister.width_at_least_8) in
    let write : (c.args.to.word + 1) * R.BITS ≡ c.args.to.word * R.BITS + c.args.to.bit + sections.first = omega (arith, cut.first, inside) in
    let write_end : (c.args.to.word + 1 + sections.whole) * R.BITS + 0
    ≡ c.args.to.word * R.BITS + c.args.to.bit + (sections.first + sections.whole * R.BITS) =
    omega (arith, write) in
    let read : sections.middle.word * R.BITS + sections.middle.bit ≡ c.args.from.word * R.BITS + c.args.from.bit + sections.first =
    omega (arith, cut.middle, cut.first) in
    let read_end : sections.end.word * R.BITS + sections.end.bit
    ≡ c.args.from.word * R.BITS + c.args.from.bit + (sections.first + sections.whole * R.BITS) =
    omega (arith, cut.end, cut.first) in
    let all : sections.first + sections.whole * R.BITS + sections.last ≡ c.args.count = omega (arith, cut.all, cut.first) in
    let two =
    joined_rising_within c.requires.direction c.requires.before (omega (arith, all, c.requires.from_in)) read write refl refl refl
    c.combine_word_within-2.ensures c.combine_row_rising_within.ensures in
    joined_rising_within c.requires.direction c.requires.before c.requires.from_in read_end write_end (omega arith) all (omega (arith, cut.met)) two
    c.combine_word_within-3.ensures
