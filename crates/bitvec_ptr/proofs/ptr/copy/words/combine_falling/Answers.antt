use Rattle.std.proofs.Common.{◌≡◌, ◌+◌, ◌*◌, ◌<◌, length, refl, sym, ◌∙◌, arith}
use Rattle.std.proofs.lemmas.Bool.{false≢true}
use Rattle.bitvec_ptr.proofs.CopyLemmas.{place_below, met_covers}
use Rattle.bitvec_ptr.proofs.GatherLemmas.{allows_elsewhere}
use Rattle.bitvec_ptr.proofs.WriterJoins.{has_combined_as, joined_falling}
use Rattle.bitvec_ptr.proofs.ptr.copy.words.combine_falling.Goals as goal

pub overflow_cast-count : goal.overflow_cast-count
overflow_cast-count g c =
    omega (arith, c.is_in_one_word.ensures.fits c.if-is_in_one_word.true, g.met.R2.BitRegister.width_at_most_128)

pub combine_word-requires-clause-bit_in : goal.combine_word-requires-clause-bit_in
combine_word-requires-clause-bit_in g c = c.is_in_one_word.ensures.fits c.if-is_in_one_word.true

pub combine_word-requires-clause-to_in : goal.combine_word-requires-clause-to_in
combine_word-requires-clause-to_in g c =
    omega (arith, c.is_in_one_word.ensures.met c.if-is_in_one_word.true, c.requires.to_in)

pub combine_word-requires-clause-rising : goal.combine_word-requires-clause-rising
combine_word-requires-clause-rising g c = λ up. absurd (false≢true (sym c.requires.direction ∙ up))

pub combine_word-requires-clause-falling : goal.combine_word-requires-clause-falling
combine_word-requires-clause-falling g c =
    λ _. omega (arith, c.is_in_one_word.ensures.met c.if-is_in_one_word.true, c.requires.stands)

pub returns-then-is_in_one_word : goal.returns-then-is_in_one_word
returns-then-is_in_one_word g c =
    has_combined_as refl refl refl refl (sym (c.is_in_one_word.ensures.met c.if-is_in_one_word.true)) c.combine_word.ensures

pub sections_of-sections-requires-clause-inside : goal.sections_of-sections-requires-clause-inside
sections_of-sections-requires-clause-inside g c =
    let R = g.R.BitRegister in
    place_below R.BITS (c.args.from.word * R.BITS + c.args.from.bit + c.args.count) (length c.args.source.now)
    (omega (arith, g.met.R.BitRegister.width_at_least_8)) c.requires.from_in (omega arith)

pub overflow_add-next : goal.overflow_add-next
overflow_add-next g c = omega (arith, c.sections_of-sections.ensures.met, c.requires.to_in)

pub overflow_add-last : goal.overflow_add-last
overflow_add-last g c = omega (arith, c.sections_of-sections.ensures.met, c.requires.to_in)

pub combine_word-requires-2-clause-bit_in : goal.combine_word-requires-2-clause-bit_in
combine_word-requires-2-clause-bit_in g c = omega (arith, c.sections_of-sections.ensures.most)

pub combine_word-requires-2-clause-way : goal.combine_word-requires-2-clause-way
combine_word-requires-2-clause-way g c =
    let sections = c.sections_of-sections in
    allows_elsewhere c.args.way g.R.BitRegister.BITS g.O.BitAt.at_of g.R2.BitRegister.BITS g.O2.BitAt.at_of c.args.from.bit c.args.to.bit
    sections.result.end.bit 0 c.requires.way sections.ensures.end_starts

pub combine_word-requires-2-clause-from_in : goal.combine_word-requires-2-clause-from_in
combine_word-requires-2-clause-from_in g c =
    let cut = c.sections_of-sections.ensures in
    omega (arith, cut.end, cut.all, c.requires.from_in)

pub combine_word-requires-2-clause-to_in : goal.combine_word-requires-2-clause-to_in
combine_word-requires-2-clause-to_in g c =
    omega (arith, c.sections_of-sections.ensures.met, c.requires.to_in)

pub combine_word-requires-2-clause-rising : goal.combine_word-requires-2-clause-rising
combine_word-requires-2-clause-rising g c = λ up. absurd (false≢true (sym c.requires.direction ∙ up))

pub combine_word-requires-2-clause-falling : goal.combine_word-requires-2-clause-falling
combine_word-requires-2-clause-falling g c = λ _. omega (arith, c.sections_of-sections.ensures.met, c.requires.stands)

pub combine_row_falling-requires-clause-way : goal.combine_row_falling-requires-clause-way
combine_row_falling-requires-clause-way g c =
    let sections = c.sections_of-sections in
    allows_elsewhere c.args.way g.R.BitRegister.BITS g.O.BitAt.at_of g.R2.BitRegister.BITS g.O2.BitAt.at_of c.args.from.bit c.args.to.bit
    sections.result.middle.bit 0 c.requires.way sections.ensures.middle_starts

pub combine_row_falling-requires-clause-short : goal.combine_row_falling-requires-clause-short
combine_row_falling-requires-clause-short g c =
    omega (arith, c.sections_of-sections.ensures.all)

pub combine_row_falling-requires-clause-from_in : goal.combine_row_falling-requires-clause-from_in
combine_row_falling-requires-clause-from_in g c =
    let cut = c.sections_of-sections.ensures in
    omega (arith, cut.middle, cut.all, c.requires.from_in)

pub combine_row_falling-requires-clause-to_in : goal.combine_row_falling-requires-clause-to_in
combine_row_falling-requires-clause-to_in g c =
    omega (arith, c.sections_of-sections.ensures.met, c.requires.to_in, c.combine_word-2.ensures.len)

pub combine_row_falling-requires-clause-direction : goal.combine_row_falling-requires-clause-direction
combine_row_falling-requires-clause-direction g c = c.combine_word-2.ensures.direction ∙ c.requires.direction

pub combine_row_falling-requires-clause-stands : goal.combine_row_falling-requires-clause-stands
combine_row_falling-requires-clause-stands g c = c.combine_word-2.ensures.falling_mark c.requires.direction

pub combine_word-requires-3-clause-some : goal.combine_word-requires-3-clause-some
combine_word-requires-3-clause-some g c =
    omega (arith, c.sections_of-sections.ensures.first, c.args.to.in_word, g.met.R2.BitRegister.width_at_least_8)

pub combine_word-requires-3-clause-bit_in : goal.combine_word-requires-3-clause-bit_in
combine_word-requires-3-clause-bit_in g c = omega (arith, c.sections_of-sections.ensures.first, c.args.to.in_word)

pub combine_word-requires-3-clause-from_in : goal.combine_word-requires-3-clause-from_in
combine_word-requires-3-clause-from_in g c =
    let cut = c.sections_of-sections.ensures in
    omega (arith, cut.first, cut.all, c.requires.from_in)

pub combine_word-requires-3-clause-to_in : goal.combine_word-requires-3-clause-to_in
combine_word-requires-3-clause-to_in g c =
    omega (arith, c.sections_of-sections.ensures.met, c.requires.to_in, c.combine_word-2.ensures.len, c.combine_row_falling.ensures.len)

pub combine_word-requires-3-clause-rising : goal.combine_word-requires-3-clause-rising
combine_word-requires-3-clause-rising g c =
    let down = c.combine_row_falling.ensures.direction ∙ c.combine_word-2.ensures.direction ∙ c.requires.direction in
    λ up. absurd (false≢true (sym down ∙ up))

pub combine_word-requires-3-clause-falling : goal.combine_word-requires-3-clause-falling
combine_word-requires-3-clause-falling g c =
    let mark = c.combine_row_falling.ensures.falling_mark (c.combine_word-2.ensures.direction ∙ c.requires.direction) in
    λ _. omega (arith, mark)

pub returns : goal.returns
returns g c =
    let R = g.R.BitRegister in
    let R2 = g.R2.BitRegister in
    let sections = c.sections_of-sections.result in
    let cut = c.sections_of-sections.ensures in
    let inside : c.args.to.bit < R2.BITS = omega (arith, c.args.to.in_word, g.met.R2.BitRegister.width_at_least_8) in
    let some : 0 < R2.BITS = omega arith in
    let room =
    met_covers R2.BITS c.args.to.word c.args.to.bit c.args.count (length c.args.writer.now.words.now) some c.requires.some c.requires.to_in in
    let write : (c.args.to.word + 1) * R2.BITS ≡ c.args.to.word * R2.BITS + c.args.to.bit + sections.first = omega (arith, cut.first, inside) in
    let write_end : (c.args.to.word + 1 + sections.whole) * R2.BITS + 0 ≡ (c.args.to.word + 1) * R2.BITS + sections.whole * R2.BITS = omega arith in
    let read : sections.middle.word * R.BITS + sections.middle.bit ≡ c.args.from.word * R.BITS + c.args.from.bit + sections.first =
    omega (arith, cut.middle, cut.first) in
    let read_end : sections.end.word * R.BITS + sections.end.bit ≡ sections.middle.word * R.BITS + sections.middle.bit + sections.whole * R2.BITS =
    omega (arith, cut.end, cut.middle) in
    let all : sections.first + (sections.whole * R2.BITS + sections.last) ≡ c.args.count = omega (arith, cut.all, cut.first) in
    let two =
    joined_falling c.requires.direction (omega (arith, all, room, write)) (omega (arith, all, c.requires.from_in, read)) read_end write_end refl refl
    refl refl refl c.combine_word-2.ensures c.combine_row_falling.ensures in
    joined_falling c.requires.direction room c.requires.from_in read write refl refl refl all (omega (arith, cut.met)) two c.combine_word-3.ensures
