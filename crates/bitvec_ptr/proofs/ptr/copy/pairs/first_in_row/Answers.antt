use Rattle.std.proofs.Common.{◌≡◌, ℕ, ◌+◌, ◌-◌, ◌*◌, ◌<◌, ◌≤◌, length, map, min, ◌∙◌, ap, arith}
use Rattle.std.proofs.Math.Nat.{mul-le-mul_right}
use Rattle.bitvec_ptr.proofs.CopyLemmas.{place_below}
use Rattle.bitvec_ptr.proofs.GatherLemmas.{allows_elsewhere}
use Rattle.bitvec_ptr.proofs.PairLemmas.{pair_on, none_joined, first_joined, first_earlier}
use Rattle.bitvec_ptr.proofs.ptr.copy.pairs.first_in_row.Goals as goal

-- what the smaller of a block and of the words that are left is
block_of : {count done block : ℕ} → done < count → block ≡ min 64 (count - done) → (0 < block) × (done + block ≤ count)
block_of more is = (omega arith, omega arith)

pub loop-done-init : goal.loop-done-init
loop-done-init g c = (omega arith, λ j h. absurd (omega (arith, h)))

pub words_on-read-requires-clause-short : goal.words_on-read-requires-clause-short
words_on-read-requires-clause-short g c =
    let bits = g.R.BitRegister.BITS in
    let less : c.loop-done.done * bits ≤ c.args.count * bits = mul-le-mul_right bits c.loop-done.invariant.0 in
    omega (arith, less, c.requires.short)

pub words_on-read-requires-clause-inside : goal.words_on-read-requires-clause-inside
words_on-read-requires-clause-inside g c =
    let bits = g.R.BitRegister.BITS in
    let bits2 = g.R2.BitRegister.BITS in
    let less : c.loop-done.done * bits ≤ c.args.count * bits = mul-le-mul_right bits c.loop-done.invariant.0 in
    place_below bits2 (c.args.from.word * bits2 + c.args.from.bit + c.loop-done.done * bits) (length c.args.other.now)
    (omega (arith, g.met.R2.BitRegister.width_at_least_8)) (omega (arith, less, c.requires.from_in)) (omega arith)

pub overflow_add-to : goal.overflow_add-to
overflow_add-to g c = omega (arith, c.requires.to_in, c.loop-done-test.true)

pub first_in_block-found-requires-clause-way : goal.first_in_block-found-requires-clause-way
first_in_block-found-requires-clause-way g c =
    let R = g.R.BitRegister in
    let R2 = g.R2.BitRegister in
    allows_elsewhere c.args.way R2.BITS g.O2.BitAt.at_of R.BITS g.O.BitAt.at_of c.args.from.bit 0 c.words_on-read.result.bit 0 c.requires.way
    (λ w e. c.words_on-read.ensures.bit w ∙ e)

pub first_in_block-found-requires-clause-short : goal.first_in_block-found-requires-clause-short
first_in_block-found-requires-clause-short g c =
    let bits = g.R.BitRegister.BITS in
    let room = (block_of c.loop-done-test.true c.min-block.ensures).1 in
    let all : (c.loop-done.done + c.min-block.result) * bits ≤ c.args.count * bits = mul-le-mul_right bits room in
    omega (arith, all, c.requires.short)

pub first_in_block-found-requires-clause-to_in : goal.first_in_block-found-requires-clause-to_in
first_in_block-found-requires-clause-to_in g c =
    let room = (block_of c.loop-done-test.true c.min-block.ensures).1 in
    omega (arith, room, c.requires.to_in)

pub first_in_block-found-requires-clause-from_in : goal.first_in_block-found-requires-clause-from_in
first_in_block-found-requires-clause-from_in g c =
    let bits = g.R.BitRegister.BITS in
    let room = (block_of c.loop-done-test.true c.min-block.ensures).1 in
    let all : (c.loop-done.done + c.min-block.result) * bits ≤ c.args.count * bits = mul-le-mul_right bits room in
    omega (arith, all, c.words_on-read.ensures.place, c.requires.from_in)

pub overflow_mul-result : goal.overflow_mul-result
overflow_mul-result g c =
    let bits = g.R.BitRegister.BITS in
    let less : c.loop-done.done * bits ≤ c.args.count * bits = mul-le-mul_right bits c.loop-done.invariant.0 in
    let place : c.loop-done.done * c.from.result ≡ c.loop-done.done * bits = ap (λ w. c.loop-done.done * w) (c.from.ensures ∙ c.BITS.ensures) in
    omega (arith, place, less, c.requires.short)

pub overflow_add-result : goal.overflow_add-result
overflow_add-result g c =
    let bits = g.R.BitRegister.BITS in
    let room = (block_of c.loop-done-test.true c.min-block.ensures).1 in
    let all : (c.loop-done.done + c.min-block.result) * bits ≤ c.args.count * bits = mul-le-mul_right bits room in
    let place : c.loop-done.done * c.from.result ≡ c.loop-done.done * bits = ap (λ w. c.loop-done.done * w) (c.from.ensures ∙ c.BITS.ensures) in
    let low : c.in-Some.i < c.min-block.result * bits = c.in-Some.ensures.0 in
    omega (arith, all, place, low, c.requires.short)

pub returns-in-Some : goal.returns-in-Some
returns-in-Some g c =
    let R = g.R.BitRegister in
    let R2 = g.R2.BitRegister in
    let bits = R.BITS in
    let done = c.loop-done.done in
    let block = c.min-block.result in
    let on = pair_on g.C.Combine.of bits g.O.BitAt.at_of (map R.number c.args.memory.now) R2.BITS g.O2.BitAt.at_of (map R2.number c.args.other.now) in
    let room = (block_of c.loop-done-test.true c.min-block.ensures).1 in
    let all : (done + block) * bits ≤ c.args.count * bits = mul-le-mul_right bits room in
    let sum : (done + block) * bits ≡ done * bits + block * bits = omega arith in
    let here : (c.args.to + done) * bits ≡ c.args.to * bits + done * bits = omega arith in
    let place : done * c.from.result + c.in-Some.i ≡ done * bits + c.in-Some.i = ap (λ w. done * w + c.in-Some.i) (c.from.ensures ∙ c.BITS.ensures) in
    first_earlier _ ((done + block) * bits) (c.args.count * bits) _ all
    (first_joined _ _ (done * bits) (block * bits) c.in-Some.i ((done + block) * bits) _ sum place (on _ _ _ _ _ here c.words_on-read.ensures.place)
    c.loop-done.invariant.1 c.in-Some.ensures)

pub overflow_add-done : goal.overflow_add-done
overflow_add-done g c =
    let room = (block_of c.loop-done-test.true c.min-block.ensures).1 in
    omega (arith, room)

pub loop-done-smaller : goal.loop-done-smaller
loop-done-smaller g c =
    let block = block_of c.loop-done-test.true c.min-block.ensures in
    omega (arith, block.0, block.1)

pub loop-done-preserved : goal.loop-done-preserved
loop-done-preserved g c =
    let R = g.R.BitRegister in
    let R2 = g.R2.BitRegister in
    let bits = R.BITS in
    let done = c.loop-done.done in
    let block = c.min-block.result in
    let on = pair_on g.C.Combine.of bits g.O.BitAt.at_of (map R.number c.args.memory.now) R2.BITS g.O2.BitAt.at_of (map R2.number c.args.other.now) in
    let room = (block_of c.loop-done-test.true c.min-block.ensures).1 in
    let sum : (done + block) * bits ≡ done * bits + block * bits = omega arith in
    let here : (c.args.to + done) * bits ≡ c.args.to * bits + done * bits = omega arith in (
      room,
      none_joined _ _ (done * bits) (block * bits) ((done + block) * bits) sum (on _ _ _ _ _ here c.words_on-read.ensures.place) c.loop-done.invariant.1
          c.in_default.ensures,
    )

pub returns : goal.returns
returns g c = λ j h.
    let bits = g.R.BitRegister.BITS in
    let end : c.loop-done.done ≡ c.args.count = omega (arith, c.loop-done.invariant.0, c.loop-done-test.false) in
    let all : c.loop-done.done * bits ≡ c.args.count * bits = ap (λ n. n * bits) end in
    c.loop-done.invariant.1 j (omega (arith, h, all))
