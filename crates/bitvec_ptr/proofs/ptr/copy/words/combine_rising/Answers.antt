use Rattle.std.proofs.Common.{◌≡◌, ◌+◌, ◌*◌, ◌<◌, length, refl, sym, ◌∙◌, arith}
use Rattle.std.proofs.lemmas.Bool.{false≢true}
use Rattle.bitvec_ptr.proofs.CopyLemmas.{place_below, met_covers}
use Rattle.bitvec_ptr.proofs.GatherLemmas.{allows_elsewhere}
use Rattle.bitvec_ptr.proofs.WriterJoins.{has_combined_as, joined_rising}
use Rattle.bitvec_ptr.proofs.ptr.copy.words.combine_rising.Goals as goal

pub combine_word-requires-clause-way : goal.combine_word-requires-clause-way
combine_word-requires-clause-way g c = c.requires.way

pub combine_word-requires-clause-falling : goal.combine_word-requires-clause-falling
combine_word-requires-clause-falling g c =
    λ down. absurd (false≢true (sym down ∙ c.requires.direction))

pub returns-then-is_in_one_word : goal.returns-then-is_in_one_word
returns-then-is_in_one_word g c =
    has_combined_as refl refl refl refl (sym (c.is_in_one_word.ensures.met c.if-is_in_one_word.true)) c.combine_word.ensures

pub sections_of-sections-requires-clause-inside : goal.sections_of-sections-requires-clause-inside
sections_of-sections-requires-clause-inside g c =
    let R = g.R.BitRegister in
    place_below R.BITS (c.args.from.word * R.BITS + c.args.from.bit + c.args.count) (length c.args.source.now)
    (omega (arith, g.met.R.BitRegister.width_at_least_8)) c.requires.from_in (omega arith)

pub combine_word-requires-2-clause-way : goal.combine_word-requires-2-clause-way
combine_word-requires-2-clause-way g c = c.requires.way

pub combine_word-requires-2-clause-falling : goal.combine_word-requires-2-clause-falling
combine_word-requires-2-clause-falling g c =
    λ down. absurd (false≢true (sym down ∙ c.requires.direction))

pub combine_row_rising-requires-clause-way : goal.combine_row_rising-requires-clause-way
combine_row_rising-requires-clause-way g c =
    let sections = c.sections_of-sections in
    allows_elsewhere c.args.way g.R.BitRegister.BITS g.O.BitAt.at_of g.R2.BitRegister.BITS g.O2.BitAt.at_of c.args.from.bit c.args.to.bit
    sections.result.middle.bit 0 c.requires.way sections.ensures.middle_starts

pub combine_row_rising-requires-clause-from_in : goal.combine_row_rising-requires-clause-from_in
combine_row_rising-requires-clause-from_in g c =
    let cut = c.sections_of-sections.ensures in
    omega (arith, cut.middle, cut.all, c.requires.from_in)

pub combine_row_rising-requires-clause-stands : goal.combine_row_rising-requires-clause-stands
combine_row_rising-requires-clause-stands g c =
    c.combine_word-2.ensures.rising_mark c.requires.direction

pub combine_row_rising-requires-clause-direction : goal.combine_row_rising-requires-clause-direction
combine_row_rising-requires-clause-direction g c =
    c.combine_word-2.ensures.direction ∙ c.requires.direction

pub combine_word-requires-3-clause-way : goal.combine_word-requires-3-clause-way
combine_word-requires-3-clause-way g c =
    let sections = c.sections_of-sections in
    allows_elsewhere c.args.way g.R.BitRegister.BITS g.O.BitAt.at_of g.R2.BitRegister.BITS g.O2.BitAt.at_of c.args.from.bit c.args.to.bit
    sections.result.end.bit 0 c.requires.way sections.ensures.end_starts

pub combine_word-requires-3-clause-from_in : goal.combine_word-requires-3-clause-from_in
combine_word-requires-3-clause-from_in g c =
    let cut = c.sections_of-sections.ensures in
    omega (arith, cut.end, cut.all, c.requires.from_in)

pub combine_word-requires-3-clause-rising : goal.combine_word-requires-3-clause-rising
combine_word-requires-3-clause-rising g c =
    let up = c.combine_word-2.ensures.direction ∙ c.requires.direction in
    let mark = c.combine_row_rising.ensures.rising_mark up in
    λ _. omega (arith, mark)

pub combine_word-requires-3-clause-falling : goal.combine_word-requires-3-clause-falling
combine_word-requires-3-clause-falling g c =
    let up = c.combine_word-2.ensures.direction ∙ c.requires.direction in
    λ down. absurd (false≢true (sym down ∙ c.combine_row_rising.ensures.direction ∙ up))

pub returns : goal.returns
returns g c =
    let R = g.R.BitRegister in
    let R2 = g.R2.BitRegister in
    let sections = c.sections_of-sections.result in
    let cut = c.sections_of-sections.ensures in
    let inside : c.args.to.bit < R2.BITS = omega (arith, c.args.to.in_word, g.met.R2.BitRegister.width_at_least_8) in
    let some : 0 < R2.BITS = omega arith in
    let room =
    met_covers R2.BITS c.args.to.word c.args.to.bit c.args.count (length c.args.writer.now.words.now) some c.requires.some c.requires.to_in in
    let write : (c.args.to.word + 1) * R2.BITS ≡ c.args.to.word * R2.BITS + c.args.to.bit + sections.first = omega (arith, cut.first, inside) in
    let write_end : (c.args.to.word + 1 + sections.whole) * R2.BITS + 0
    ≡ c.args.to.word * R2.BITS + c.args.to.bit + (sections.first + sections.whole * R2.BITS) =
    omega (arith, write) in
    let read : sections.middle.word * R.BITS + sections.middle.bit ≡ c.args.from.word * R.BITS + c.args.from.bit + sections.first =
    omega (arith, cut.middle, cut.first) in
    let read_end : sections.end.word * R.BITS + sections.end.bit
    ≡ c.args.from.word * R.BITS + c.args.from.bit + (sections.first + sections.whole * R2.BITS) =
    omega (arith, cut.end, cut.first) in
    let all : sections.first + sections.whole * R2.BITS + sections.last ≡ c.args.count = omega (arith, cut.all, cut.first) in
    let two =
    joined_rising c.requires.direction (omega (arith, all, room)) (omega (arith, all, c.requires.from_in)) read write refl refl refl
    c.combine_word-2.ensures c.combine_row_rising.ensures in
    joined_rising c.requires.direction room c.requires.from_in read_end write_end (omega arith) all (omega (arith, cut.met)) two
    c.combine_word-3.ensures
