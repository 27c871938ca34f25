use Rattle.std.proofs.Common.{◌≡◌, ◌+◌, ◌*◌, length, refl, ap, ◌∙◌, arith}
use Rattle.bitvec_ptr.proofs.CopyLemmas.{place_below}
use Rattle.bitvec_ptr.proofs.GatherLemmas.{allows_elsewhere}
use Rattle.bitvec_ptr.proofs.ListJoins.{row_less}
use Rattle.bitvec_ptr.proofs.WriterJoins.{nothing_combined, joined_rising_within}
use Rattle.bitvec_ptr.proofs.ptr.copy.words.combine_few_rising_within.Goals as goal

pub loop-k-init : goal.loop-k-init
loop-k-init g c =
    nothing_combined (omega arith) c.requires.stands

pub words_on-read-requires-clause-short : goal.words_on-read-requires-clause-short
words_on-read-requires-clause-short g c =
    let less = row_less g.R.BitRegister.BITS (c.loop-k.k) c.args.count (omega arith) in
    omega (arith, less)

pub words_on-read-requires-clause-inside : goal.words_on-read-requires-clause-inside
words_on-read-requires-clause-inside g c =
    let R = g.R.BitRegister in
    let less = row_less R.BITS (c.loop-k.k) c.args.count (omega arith) in
    place_below R.BITS (c.args.from.word * R.BITS + c.args.from.bit + (c.loop-k.k) * R.BITS) (length c.args.writer.now.words.now)
    (omega (arith, g.met.R.BitRegister.width_at_least_8)) (omega (arith, less)) (omega arith)

pub combine_word_within-requires-clause-way : goal.combine_word_within-requires-clause-way
combine_word_within-requires-clause-way g c =
    let R = g.R.BitRegister in
    allows_elsewhere c.args.way R.BITS g.O.BitAt.at_of R.BITS g.O.BitAt.at_of c.args.from.bit 0 c.words_on-read.result.bit 0 c.requires.way
    (λ w e. c.words_on-read.ensures.bit refl ∙ e)

pub combine_word_within-requires-clause-from_in : goal.combine_word_within-requires-clause-from_in
combine_word_within-requires-clause-from_in g c =
    let less = row_less g.R.BitRegister.BITS (c.loop-k.k) c.args.count (omega arith) in
    let same : length c.loop-k.writer.words.now * g.R.BitRegister.BITS ≡ length c.args.writer.now.words.now * g.R.BitRegister.BITS =
    ap (λ n. n * g.R.BitRegister.BITS) c.loop-k.invariant.len in
    omega (arith, less, c.words_on-read.ensures.place, c.BITS.ensures, same, c.requires.from_in)

pub loop-k-preserved : goal.loop-k-preserved
loop-k-preserved g c =
    let R = g.R.BitRegister in
    let k = c.loop-k.k in
    let less = row_less R.BITS k c.args.count (omega arith) in
    let next : (k + 1) * R.BITS ≡ k * R.BITS + R.BITS = omega arith in
    let write : (c.args.to + k) * R.BITS + 0 ≡ c.args.to * R.BITS + k * R.BITS = omega arith in
    joined_rising_within c.requires.direction c.requires.before (omega (arith, less, next, c.requires.from_in)) c.words_on-read.ensures.place write
    refl (omega (arith, next, c.BITS.ensures)) refl c.loop-k.invariant c.combine_word_within.ensures
