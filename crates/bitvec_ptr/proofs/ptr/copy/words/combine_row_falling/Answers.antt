use Rattle.std.proofs.Common.{◌≡◌, ◌+◌, ◌-◌, ◌*◌, length, ap, ◌∙◌, arith}
use Rattle.bitvec_ptr.proofs.CopyLemmas.{place_below}
use Rattle.bitvec_ptr.proofs.FallingRows.{row_falls}
use Rattle.bitvec_ptr.proofs.GatherLemmas.{allows_elsewhere}
use Rattle.bitvec_ptr.proofs.ListJoins.{row_less}
use Rattle.bitvec_ptr.proofs.WriterJoins.{nothing_combined, has_combined_as}
use Rattle.bitvec_ptr.proofs.ptr.copy.words.combine_row_falling.Goals as goal

pub loop-done-init : goal.loop-done-init
loop-done-init g c =
    nothing_combined (omega arith) (omega arith)

pub words_on-read-requires-clause-short : goal.words_on-read-requires-clause-short
words_on-read-requires-clause-short g c =
    let less = row_less g.R2.BitRegister.BITS (c.args.count - 1 - c.loop-done.done) c.args.count (omega arith) in
    omega (arith, less)

pub words_on-read-requires-clause-inside : goal.words_on-read-requires-clause-inside
words_on-read-requires-clause-inside g c =
    let R = g.R.BitRegister in
    let R2 = g.R2.BitRegister in
    let less = row_less R2.BITS (c.args.count - 1 - c.loop-done.done) c.args.count (omega arith) in
    place_below R.BITS (c.args.from.word * R.BITS + c.args.from.bit + (c.args.count - 1 - c.loop-done.done) * R2.BITS) (length c.args.source.now)
    (omega (arith, g.met.R.BitRegister.width_at_least_8)) (omega (arith, less)) (omega arith)

pub combine_word-requires-clause-way : goal.combine_word-requires-clause-way
combine_word-requires-clause-way g c =
    let R = g.R.BitRegister in
    let R2 = g.R2.BitRegister in
    allows_elsewhere c.args.way R.BITS g.O.BitAt.at_of R2.BITS g.O2.BitAt.at_of c.args.from.bit 0 c.words_on-read.result.bit 0 c.requires.way
    (λ w e. c.words_on-read.ensures.bit w ∙ e)

pub combine_word-requires-clause-from_in : goal.combine_word-requires-clause-from_in
combine_word-requires-clause-from_in g c =
    let less = row_less g.R2.BitRegister.BITS (c.args.count - 1 - c.loop-done.done) c.args.count (omega arith) in
    omega (arith, less, c.words_on-read.ensures.place, c.BITS.ensures, c.loop-done.invariant.len)

pub loop-done-preserved : goal.loop-done-preserved
loop-done-preserved g c =
    let k = c.args.count - 1 - c.loop-done.done in
    let here : k + (c.loop-done.done + 1) ≡ c.args.count = omega arith in
    row_falls _ _ k c.requires.direction here c.BITS.ensures c.words_on-read.ensures.place c.requires.to_in c.requires.from_in c.loop-done.invariant c.combine_word.ensures

pub returns : goal.returns
returns g c =
    let R = g.R.BitRegister in
    let R2 = g.R2.BitRegister in
    let none : c.args.count - c.loop-done.done ≡ 0 = omega arith in
    let left : (c.args.count - c.loop-done.done) * R2.BITS ≡ 0 = ap (λ n. n * R2.BITS) none ∙ omega arith in
    let all : c.loop-done.done ≡ c.args.count = omega arith in
    has_combined_as (omega (arith, left)) (omega (arith, left)) (ap (λ n. n * R2.BITS) all) (omega (arith, none)) all c.loop-done.invariant
