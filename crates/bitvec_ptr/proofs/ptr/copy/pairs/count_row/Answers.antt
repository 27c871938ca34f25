use Rattle.std.proofs.Common.{◌≡◌, ◌+◌, ◌*◌, length, map, ◌∙◌, arith}
use Rattle.bitvec_order.proofs.CountLemmas.{count_start}
use Rattle.bitvec_ptr.specs.Pairs.{pair_of}
use Rattle.bitvec_ptr.proofs.CopyLemmas.{place_below}
use Rattle.bitvec_ptr.proofs.GatherLemmas.{allows_elsewhere}
use Rattle.bitvec_ptr.proofs.ListJoins.{row_less}
use Rattle.bitvec_ptr.proofs.PairLemmas.{pair_on, count_joined, count_small}
use Rattle.bitvec_ptr.proofs.ptr.copy.pairs.count_row.Goals as goal

pub loop-k-init : goal.loop-k-init
loop-k-init g c =
    let R = g.R.BitRegister in
    let R2 = g.R2.BitRegister in
    count_start (pair_of g.C.Combine.of R.BITS g.O.BitAt.at_of (map R.number c.args.memory.now) (c.args.to * R.BITS) R2.BITS g.O2.BitAt.at_of
    (map R2.number c.args.other.now) (c.args.from.word * R2.BITS + c.args.from.bit)) R.BITS

pub words_on-read-requires-clause-short : goal.words_on-read-requires-clause-short
words_on-read-requires-clause-short g c =
    let less = row_less g.R.BitRegister.BITS c.loop-k.k c.args.count (omega arith) in
    omega (arith, less)

pub words_on-read-requires-clause-inside : goal.words_on-read-requires-clause-inside
words_on-read-requires-clause-inside g c =
    let R = g.R.BitRegister in
    let R2 = g.R2.BitRegister in
    let less = row_less R.BITS c.loop-k.k c.args.count (omega arith) in
    place_below R2.BITS (c.args.from.word * R2.BITS + c.args.from.bit + c.loop-k.k * R.BITS) (length c.args.other.now)
    (omega (arith, g.met.R2.BitRegister.width_at_least_8)) (omega (arith, less)) (omega arith)

pub count_word-total-requires-clause-way : goal.count_word-total-requires-clause-way
count_word-total-requires-clause-way g c =
    let R = g.R.BitRegister in
    let R2 = g.R2.BitRegister in
    allows_elsewhere c.args.way R2.BITS g.O2.BitAt.at_of R.BITS g.O.BitAt.at_of c.args.from.bit 0 c.words_on-read.result.bit 0 c.requires.way
    (λ w e. c.words_on-read.ensures.bit w ∙ e)

pub count_word-total-requires-clause-from_in : goal.count_word-total-requires-clause-from_in
count_word-total-requires-clause-from_in g c =
    let less = row_less g.R.BitRegister.BITS c.loop-k.k c.args.count (omega arith) in
    omega (arith, less, c.words_on-read.ensures.place, c.BITS.ensures)

pub overflow_add-total : goal.overflow_add-total
overflow_add-total g c =
    let bits = g.R.BitRegister.BITS in
    let less = row_less bits c.loop-k.k c.args.count (omega arith) in
    omega (arith, less, c.requires.short, c.BITS.ensures, count_small _ _ c.loop-k.invariant, count_small _ _ c.count_word-total.ensures)

pub loop-k-preserved : goal.loop-k-preserved
loop-k-preserved g c =
    let R = g.R.BitRegister in
    let R2 = g.R2.BitRegister in
    let bits = R.BITS in
    let k = c.loop-k.k in
    let on = pair_on g.C.Combine.of bits g.O.BitAt.at_of (map R.number c.args.memory.now) R2.BITS g.O2.BitAt.at_of (map R2.number c.args.other.now) in
    let next : (k + 1) * bits ≡ k * bits + c.BITS.result = omega (arith, c.BITS.ensures) in
    let here : (c.args.to + k) * bits + 0 ≡ c.args.to * bits + k * bits = omega arith in
    count_joined _ _ _ _ ((k + 1) * bits) next c.loop-k.invariant c.count_word-total.ensures (on _ _ _ _ _ here c.words_on-read.ensures.place)
