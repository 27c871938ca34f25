use Rattle.std.proofs.Common.{◌≡◌, ◌+◌, ◌*◌, length, map, ⊎_elim, ◌∙◌, arith}
use Rattle.bitvec_ptr.specs.Pairs.{pair_of}
use Rattle.bitvec_ptr.proofs.CopyLemmas.{place_below}
use Rattle.bitvec_ptr.proofs.GatherLemmas.{allows_elsewhere}
use Rattle.bitvec_ptr.proofs.ListJoins.{row_less}
use Rattle.bitvec_ptr.proofs.PairLemmas.{HasPairs, pair_on, joined_more}
use Rattle.bitvec_ptr.proofs.ptr.copy.pairs.joined_row.Goals as goal

pub loop-k-init : goal.loop-k-init
loop-k-init g c = λ _ j h. absurd (omega (arith, h))

pub words_on-read-requires-clause-short : goal.words_on-read-requires-clause-short
words_on-read-requires-clause-short g c =
    let less = row_less g.R.BitRegister.BITS c.loop-k.k c.args.count (omega arith) in
    omega (arith, less)

pub words_on-read-requires-clause-inside : goal.words_on-read-requires-clause-inside
words_on-read-requires-clause-inside g c =
    let R = g.R.BitRegister in
    let R2 = g.R2.BitRegister in
    let less = row_less R.BITS c.loop-k.k c.args.count (omega arith) in
    place_below R2.BITS (c.args.from.word * R2.BITS + c.args.from.bit + c.loop-k.k * R.BITS) (length c.args.other.now)
    (omega (arith, g.met.R2.BitRegister.width_at_least_8)) (omega (arith, less)) (omega arith)

pub question_word-both-requires-clause-way : goal.question_word-both-requires-clause-way
question_word-both-requires-clause-way g c =
    let R = g.R.BitRegister in
    let R2 = g.R2.BitRegister in
    allows_elsewhere c.args.way R2.BITS g.O2.BitAt.at_of R.BITS g.O.BitAt.at_of c.args.from.bit 0 c.words_on-read.result.bit 0 c.requires.way
    (λ w e. c.words_on-read.ensures.bit w ∙ e)

pub question_word-both-requires-clause-from_in : goal.question_word-both-requires-clause-from_in
question_word-both-requires-clause-from_in g c =
    let less = row_less g.R.BitRegister.BITS c.loop-k.k c.args.count (omega arith) in
    omega (arith, less, c.words_on-read.ensures.place, c.BITS.ensures)

pub loop-k-preserved : goal.loop-k-preserved
loop-k-preserved g c =
    let R = g.R.BitRegister in
    let R2 = g.R2.BitRegister in
    let bits = R.BITS in
    let k = c.loop-k.k in
    let read = c.words_on-read.result in
    let words = map R.number c.args.memory.now in
    let others = map R2.number c.args.other.now in
    let both = c.question_word-both in
    let has : HasPairs bits g.O.BitAt.at_of (pair_of g.C.Combine.of bits g.O.BitAt.at_of words ((c.args.to + k) * bits + 0) R2.BITS g.O2.BitAt.at_of others
    (read.word * R2.BITS + read.bit)) 0 bits (R.number both.result) =
    record {
      room = omega arith;
      inside = λ j h. both.ensures.inside j (omega (arith, h, c.BITS.ensures));
      outside = λ j h u. ⊎_elim (λ l. absurd (omega (arith, l))) (λ r. absurd (omega (arith, r, h))) u;
    } in
    let next : (k + 1) * bits ≡ k * bits + bits = omega arith in
    let here : (c.args.to + k) * bits + 0 ≡ c.args.to * bits + k * bits = omega arith in
    joined_more has g.met.O.BitOrder.one_to_one _ (R.number c.loop-k.joined) (R.number c.or-joined.result) (k * bits) ((k + 1) * bits) next
    (pair_on g.C.Combine.of bits g.O.BitAt.at_of words R2.BITS g.O2.BitAt.at_of others _ _ _ _ _ here c.words_on-read.ensures.place)
    c.or-joined.ensures.digits c.loop-k.invariant
