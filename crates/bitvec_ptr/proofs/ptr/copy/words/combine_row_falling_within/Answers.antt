use Rattle.std.proofs.Common.{◌≡◌, ◌+◌, ◌-◌, ◌*◌, ◌%◌, ◌≤◌, length, refl, ap, ◌∙◌, arith}
use Rattle.std.proofs.Math.Nat.{mul-le-mul_right}
use Rattle.std.proofs.lemmas.Nat.{div-add-mod'}
use Rattle.bitvec_ptr.proofs.CopyLemmas.{place_below}
use Rattle.bitvec_ptr.proofs.GatherLemmas.{allows_elsewhere}
use Rattle.bitvec_ptr.proofs.WriterJoins.{nothing_combined, joined_falling_within}
use Rattle.bitvec_ptr.proofs.ptr.copy.words.combine_row_falling_within.Goals as goal

pub loop-block-init : goal.loop-block-init
loop-block-init g c = nothing_combined (omega arith) (omega arith)

pub words_on-read-requires-clause-short : goal.words_on-read-requires-clause-short
words_on-read-requires-clause-short g c =
    let less : (c.args.count - 4 - c.loop-block.block * 4) * g.R.BitRegister.BITS ≤ c.args.count * g.R.BitRegister.BITS =
    mul-le-mul_right g.R.BitRegister.BITS (omega arith) in
    omega (arith, less)

pub words_on-read-requires-clause-inside : goal.words_on-read-requires-clause-inside
words_on-read-requires-clause-inside g c =
    let R = g.R.BitRegister in
    let k = c.args.count - 4 - c.loop-block.block * 4 in
    let less : k * R.BITS ≤ c.args.count * R.BITS = mul-le-mul_right R.BITS (omega arith) in
    place_below R.BITS (c.args.from.word * R.BITS + c.args.from.bit + k * R.BITS) (length c.args.writer.now.words.now)
    (omega (arith, g.met.R.BitRegister.width_at_least_8)) (omega (arith, less, c.requires.from_in)) (omega arith)

pub combine_block_falling_within-requires-clause-way : goal.combine_block_falling_within-requires-clause-way
combine_block_falling_within-requires-clause-way g c =
    let R = g.R.BitRegister in
    allows_elsewhere c.args.way R.BITS g.O.BitAt.at_of R.BITS g.O.BitAt.at_of c.args.from.bit 0 c.words_on-read.result.bit 0 c.requires.way
    (λ w e. c.words_on-read.ensures.bit refl ∙ e)

pub combine_block_falling_within-requires-clause-from_in : goal.combine_block_falling_within-requires-clause-from_in
combine_block_falling_within-requires-clause-from_in g c =
    let R = g.R.BitRegister in
    let k = c.args.count - 4 - c.loop-block.block * 4 in
    let parts = div-add-mod' c.args.count 4 in
    let less : (k + 4) * R.BITS ≤ c.args.count * R.BITS = mul-le-mul_right R.BITS (omega (arith, parts)) in
    let same : length c.loop-block.writer.words.now * R.BITS ≡ length c.args.writer.now.words.now * R.BITS =
    ap (λ n. n * R.BITS) c.loop-block.invariant.len in
    omega (arith, less, c.words_on-read.ensures.place, same, c.requires.from_in)

pub combine_block_falling_within-requires-clause-to_in : goal.combine_block_falling_within-requires-clause-to_in
combine_block_falling_within-requires-clause-to_in g c =
    let parts = div-add-mod' c.args.count 4 in
    omega (arith, parts, c.requires.to_in, c.loop-block.invariant.len)

pub combine_block_falling_within-requires-clause-direction : goal.combine_block_falling_within-requires-clause-direction
combine_block_falling_within-requires-clause-direction g c = c.loop-block.invariant.direction ∙ c.requires.direction

pub combine_block_falling_within-requires-clause-stands : goal.combine_block_falling_within-requires-clause-stands
combine_block_falling_within-requires-clause-stands g c =
    let parts = div-add-mod' c.args.count 4 in
    let mark = c.loop-block.invariant.falling_mark c.requires.direction in
    omega (arith, parts, mark)

pub combine_few_falling_within-requires-2-clause-short : goal.combine_few_falling_within-requires-2-clause-short
combine_few_falling_within-requires-2-clause-short g c =
    let parts = div-add-mod' c.args.count 4 in
    let less : c.args.count % 4 * g.R.BitRegister.BITS ≤ c.args.count * g.R.BitRegister.BITS = mul-le-mul_right g.R.BitRegister.BITS (omega (arith, parts)) in
    omega (arith, less, c.requires.short)

pub combine_few_falling_within-requires-2-clause-from_in : goal.combine_few_falling_within-requires-2-clause-from_in
combine_few_falling_within-requires-2-clause-from_in g c =
    let R = g.R.BitRegister in
    let parts = div-add-mod' c.args.count 4 in
    let less : c.args.count % 4 * R.BITS ≤ c.args.count * R.BITS = mul-le-mul_right R.BITS (omega (arith, parts)) in
    let same : length c.loop-block.writer.words.now * R.BITS ≡ length c.args.writer.now.words.now * R.BITS =
    ap (λ n. n * R.BITS) c.loop-block.invariant.len in
    omega (arith, less, same, c.requires.from_in)

pub combine_few_falling_within-requires-2-clause-to_in : goal.combine_few_falling_within-requires-2-clause-to_in
combine_few_falling_within-requires-2-clause-to_in g c =
    let parts = div-add-mod' c.args.count 4 in
    omega (arith, parts, c.requires.to_in, c.loop-block.invariant.len)

pub combine_few_falling_within-requires-2-clause-direction : goal.combine_few_falling_within-requires-2-clause-direction
combine_few_falling_within-requires-2-clause-direction g c = c.loop-block.invariant.direction ∙ c.requires.direction

pub combine_few_falling_within-requires-2-clause-stands : goal.combine_few_falling_within-requires-2-clause-stands
combine_few_falling_within-requires-2-clause-stands g c =
    let parts = div-add-mod' c.args.count 4 in
    let mark = c.loop-block.invariant.falling_mark c.requires.direction in
    omega (arith, parts, mark)

pub loop-block-preserved : goal.loop-block-preserved
loop-block-preserved g c =
    let R = g.R.BitRegister in
    let block = c.loop-block.block in
    let k = c.args.count - 4 - block * 4 in
    let parts = div-add-mod' c.args.count 4 in
    let rest : c.args.count - (block + 1) * 4 ≡ k = omega arith in
    let more : c.args.count - block * 4 ≡ k + 4 = omega (arith, parts) in
    let here : (c.args.count - (block + 1) * 4) * R.BITS ≡ k * R.BITS = ap (λ v. v * R.BITS) rest in
    let there : (c.args.count - block * 4) * R.BITS ≡ k * R.BITS + 4 * R.BITS = ap (λ v. v * R.BITS) more ∙ omega arith in
    let whole : k + (block + 1) * 4 ≡ c.args.count = omega (arith, parts) in
    let all : k * R.BITS + (block + 1) * 4 * R.BITS ≡ c.args.count * R.BITS = omega (arith, ap (λ n. n * R.BITS) whole) in
    let room : (c.args.to + c.args.count) * R.BITS ≤ length c.args.writer.now.words.now * R.BITS = mul-le-mul_right R.BITS c.requires.to_in in
    let both : 4 * R.BITS + block * 4 * R.BITS ≡ (block + 1) * 4 * R.BITS = omega arith in
    let met : block * 4 + 4 ≡ (block + 1) * 4 = omega arith in
    joined_falling_within c.requires.direction (omega (arith, here, c.requires.behind)) (omega (arith, here, all, room)) (omega (arith, here, there))
    (omega (arith, here, there)) (omega (arith, here, c.words_on-read.ensures.place)) (omega (arith, here)) (omega (arith, rest)) both met
    c.loop-block.invariant c.combine_block_falling_within.ensures

pub returns : goal.returns
returns g c =
    let R = g.R.BitRegister in
    let few = c.args.count % 4 in
    let done = c.loop-block.block * 4 in
    let parts = div-add-mod' c.args.count 4 in
    let left : c.args.count - done ≡ few = omega (arith, parts) in
    let here : (c.args.count - done) * R.BITS ≡ few * R.BITS = ap (λ v. v * R.BITS) left in
    let whole : done + few ≡ c.args.count = omega (arith, parts) in
    let all : few * R.BITS + done * R.BITS ≡ c.args.count * R.BITS = omega (arith, ap (λ v. v * R.BITS) whole) in
    let room : (c.args.to + c.args.count) * R.BITS ≤ length c.args.writer.now.words.now * R.BITS = mul-le-mul_right R.BITS c.requires.to_in in
    joined_falling_within c.requires.direction c.requires.behind (omega (arith, room)) (omega (arith, here)) (omega (arith, here)) refl refl refl all whole
    c.loop-block.invariant c.combine_few_falling_within-2.ensures
