use Rattle.std.proofs.Common.{◌≡◌, ◌+◌, ◌*◌, ◌<◌, length, map, refl, ◌∙◌, ap, arith}
use Rattle.bitvec_ptr.proofs.CopyLemmas.{place_below}
use Rattle.bitvec_ptr.proofs.GatherLemmas.{allows_elsewhere}
use Rattle.bitvec_ptr.proofs.ListJoins.{row_less}
use Rattle.bitvec_ptr.proofs.PairLemmas.{pair_on, none_joined, first_joined, first_earlier}
use Rattle.bitvec_ptr.proofs.ptr.copy.pairs.first_by_words.Goals as goal

pub loop-k-init : goal.loop-k-init
loop-k-init g c = λ j h. absurd (omega (arith, h))

pub words_on-read-requires-clause-short : goal.words_on-read-requires-clause-short
words_on-read-requires-clause-short g c =
    let less = row_less g.R.BitRegister.BITS c.loop-k.k c.args.count (omega arith) in
    omega (arith, less)

pub words_on-read-requires-clause-inside : goal.words_on-read-requires-clause-inside
words_on-read-requires-clause-inside g c =
    let R = g.R.BitRegister in
    let R2 = g.R2.BitRegister in
    let less = row_less R.BITS c.loop-k.k c.args.count (omega arith) in
    place_below R2.BITS (c.args.from.word * R2.BITS + c.args.from.bit + c.loop-k.k * R.BITS) (length c.args.other.now)
    (omega (arith, g.met.R2.BitRegister.width_at_least_8)) (omega (arith, less)) (omega arith)

pub overflow_add-to : goal.overflow_add-to
overflow_add-to g c = omega (arith, c.requires.to_in, c.loop-k-test.true)

pub first_in_word-found-requires-clause-some : goal.first_in_word-found-requires-clause-some
first_in_word-found-requires-clause-some g c = omega (arith, c.BITS.ensures, g.met.R.BitRegister.width_at_least_8)

pub first_in_word-found-requires-clause-bit_in : goal.first_in_word-found-requires-clause-bit_in
first_in_word-found-requires-clause-bit_in g c = omega (arith, c.BITS.ensures)

pub first_in_word-found-requires-clause-to_in : goal.first_in_word-found-requires-clause-to_in
first_in_word-found-requires-clause-to_in g c = omega (arith, c.requires.to_in, c.loop-k-test.true)

pub first_in_word-found-requires-clause-way : goal.first_in_word-found-requires-clause-way
first_in_word-found-requires-clause-way g c =
    let R = g.R.BitRegister in
    let R2 = g.R2.BitRegister in
    allows_elsewhere c.args.way R2.BITS g.O2.BitAt.at_of R.BITS g.O.BitAt.at_of c.args.from.bit 0 c.words_on-read.result.bit 0 c.requires.way
    (λ w e. c.words_on-read.ensures.bit w ∙ e)

pub first_in_word-found-requires-clause-from_in : goal.first_in_word-found-requires-clause-from_in
first_in_word-found-requires-clause-from_in g c =
    let less = row_less g.R.BitRegister.BITS c.loop-k.k c.args.count (omega arith) in
    omega (arith, less, c.words_on-read.ensures.place, c.BITS.ensures)

pub overflow_mul-result : goal.overflow_mul-result
overflow_mul-result g c =
    let k = c.loop-k.k in
    let place : k * c.from.result ≡ k * g.R.BitRegister.BITS = ap (λ w. k * w) (c.from.ensures ∙ c.BITS-in-Some.ensures) in
    let less = row_less g.R.BitRegister.BITS k c.args.count (omega arith) in
    omega (arith, place, less, c.requires.short)

pub overflow_add-result : goal.overflow_add-result
overflow_add-result g c =
    let k = c.loop-k.k in
    let place : k * c.from.result ≡ k * g.R.BitRegister.BITS = ap (λ w. k * w) (c.from.ensures ∙ c.BITS-in-Some.ensures) in
    let less = row_less g.R.BitRegister.BITS k c.args.count (omega arith) in
    let low : c.in-Some.i < c.BITS.result = c.in-Some.ensures.0 in
    omega (arith, place, less, low, c.BITS.ensures, c.requires.short)

pub returns-in-Some : goal.returns-in-Some
returns-in-Some g c =
    let R = g.R.BitRegister in
    let R2 = g.R2.BitRegister in
    let bits = R.BITS in
    let k = c.loop-k.k in
    let on = pair_on g.C.Combine.of bits g.O.BitAt.at_of (map R.number c.args.memory.now) R2.BITS g.O2.BitAt.at_of (map R2.number c.args.other.now) in
    let less = row_less bits k c.args.count (omega arith) in
    let here : (c.args.to + k) * bits + 0 ≡ c.args.to * bits + k * bits = omega arith in
    let place : k * c.from.result + c.in-Some.i ≡ k * bits + c.in-Some.i = ap (λ w. k * w + c.in-Some.i) (c.from.ensures ∙ c.BITS-in-Some.ensures) in
    first_earlier _ (k * bits + c.BITS.result) (c.args.count * bits) _ (omega (arith, less, c.BITS.ensures))
    (first_joined _ _ (k * bits) c.BITS.result c.in-Some.i (k * bits + c.BITS.result) _ refl place (on _ _ _ _ _ here c.words_on-read.ensures.place)
    c.loop-k.invariant c.in-Some.ensures)

pub loop-k-preserved : goal.loop-k-preserved
loop-k-preserved g c =
    let R = g.R.BitRegister in
    let R2 = g.R2.BitRegister in
    let bits = R.BITS in
    let k = c.loop-k.k in
    let on = pair_on g.C.Combine.of bits g.O.BitAt.at_of (map R.number c.args.memory.now) R2.BITS g.O2.BitAt.at_of (map R2.number c.args.other.now) in
    let here : (c.args.to + k) * bits + 0 ≡ c.args.to * bits + k * bits = omega arith in
    let next : (k + 1) * bits ≡ k * bits + c.BITS.result = omega (arith, c.BITS.ensures) in
    none_joined _ _ (k * bits) c.BITS.result ((k + 1) * bits) next (on _ _ _ _ _ here c.words_on-read.ensures.place) c.loop-k.invariant c.in_default.ensures

pub returns : goal.returns
returns g c = λ j h.
    let bits = g.R.BitRegister.BITS in
    let end : c.loop-k.k ≡ c.args.count = omega (arith, c.loop-k.auto.k-end, c.loop-k-test.false) in
    let all : c.loop-k.k * bits ≡ c.args.count * bits = ap (λ n. n * bits) end in
    c.loop-k.invariant j (omega (arith, h, all))
