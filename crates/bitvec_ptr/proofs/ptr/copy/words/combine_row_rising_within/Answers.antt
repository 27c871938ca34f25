use Rattle.std.proofs.Common.{◌≡◌, ◌+◌, ◌-◌, ◌*◌, ◌/◌, ◌%◌, ◌≤◌, length, refl, ap, ◌∙◌, arith}
use Rattle.std.proofs.Math.Nat.{mul-le-mul_right}
use Rattle.std.proofs.lemmas.Nat.{div-add-mod'}
use Rattle.bitvec_ptr.proofs.CopyLemmas.{place_below}
use Rattle.bitvec_ptr.proofs.GatherLemmas.{allows_elsewhere}
use Rattle.bitvec_ptr.proofs.WriterJoins.{nothing_combined, joined_rising_within}
use Rattle.bitvec_ptr.proofs.ptr.copy.words.combine_row_rising_within.Goals as goal

pub loop-block-init : goal.loop-block-init
loop-block-init g c = nothing_combined (omega arith) c.requires.stands

pub words_on-read-requires-clause-short : goal.words_on-read-requires-clause-short
words_on-read-requires-clause-short g c =
    let R = g.R.BitRegister in
    let parts = div-add-mod' c.args.count 4 in
    let less : (c.loop-block.block * 4) * R.BITS ≤ c.args.count * R.BITS =
    mul-le-mul_right R.BITS (omega (arith, parts)) in
    omega (arith, less, c.requires.short)

pub words_on-read-requires-clause-inside : goal.words_on-read-requires-clause-inside
words_on-read-requires-clause-inside g c =
    let R = g.R.BitRegister in
    let parts = div-add-mod' c.args.count 4 in
    let less : (c.loop-block.block * 4 + 4) * R.BITS ≤ c.args.count * R.BITS = mul-le-mul_right R.BITS (omega (arith, parts)) in
    place_below R.BITS (c.args.from.word * R.BITS + c.args.from.bit + c.loop-block.block * 4 * R.BITS) (length c.args.writer.now.words.now)
    (omega (arith, g.met.R.BitRegister.width_at_least_8)) (omega (arith, less, c.requires.from_in)) (omega arith)

pub combine_block_rising_within-requires-clause-way : goal.combine_block_rising_within-requires-clause-way
combine_block_rising_within-requires-clause-way g c =
    let same = c.words_on-read.ensures.bit refl in
    allows_elsewhere _ _ _ _ _ _ _ _ _ c.requires.way (λ _ e. same ∙ e)

pub combine_block_rising_within-requires-clause-from_in : goal.combine_block_rising_within-requires-clause-from_in
combine_block_rising_within-requires-clause-from_in g c =
    let R = g.R.BitRegister in
    let parts = div-add-mod' c.args.count 4 in
    let less : (c.loop-block.block * 4 + 4) * R.BITS ≤ c.args.count * R.BITS = mul-le-mul_right R.BITS (omega (arith, parts)) in
    let same : length c.loop-block.writer.words.now * R.BITS ≡ length c.args.writer.now.words.now * R.BITS =
    ap (λ n. n * R.BITS) c.loop-block.invariant.len in
    omega (arith, less, c.words_on-read.ensures.place, same, c.requires.from_in)

pub words_on-rest-requires-clause-short : goal.words_on-rest-requires-clause-short
words_on-rest-requires-clause-short g c =
    let R = g.R.BitRegister in
    let less : (c.args.count - c.args.count % 4) * R.BITS ≤ c.args.count * R.BITS =
    mul-le-mul_right R.BITS (omega arith) in
    omega (arith, less, c.requires.short)

pub words_on-rest-requires-clause-inside : goal.words_on-rest-requires-clause-inside
words_on-rest-requires-clause-inside g c =
    let R = g.R.BitRegister in
    let less : (c.args.count - c.args.count % 4) * R.BITS ≤ c.args.count * R.BITS = mul-le-mul_right R.BITS (omega arith) in
    place_below R.BITS (c.args.from.word * R.BITS + c.args.from.bit + (c.args.count - c.args.count % 4) * R.BITS)
    (length c.args.writer.now.words.now) (omega (arith, g.met.R.BitRegister.width_at_least_8)) (omega (arith, less, c.requires.from_in)) (omega arith)

pub combine_few_rising_within-requires-2-clause-from_in : goal.combine_few_rising_within-requires-2-clause-from_in
combine_few_rising_within-requires-2-clause-from_in g c =
    let R = g.R.BitRegister in
    let few = c.args.count % 4 in
    let parts = div-add-mod' c.args.count 4 in
    let whole : c.args.count - few + few ≡ c.args.count = omega (arith, parts) in
    let all : (c.args.count - few) * R.BITS + few * R.BITS ≡ c.args.count * R.BITS = omega (arith, ap (λ n. n * R.BITS) whole) in
    let same : length c.loop-block.writer.words.now * R.BITS ≡ length c.args.writer.now.words.now * R.BITS =
    ap (λ n. n * R.BITS) c.loop-block.invariant.len in
    omega (arith, all, c.words_on-rest.ensures.place, same, c.requires.from_in)

pub combine_few_rising_within-requires-2-clause-before : goal.combine_few_rising_within-requires-2-clause-before
combine_few_rising_within-requires-2-clause-before g c =
    omega (arith, c.words_on-rest.ensures.place, c.requires.before)

pub combine_few_rising_within-requires-2-clause-stands : goal.combine_few_rising_within-requires-2-clause-stands
combine_few_rising_within-requires-2-clause-stands g c =
    let parts = div-add-mod' c.args.count 4 in
    let mark = c.loop-block.invariant.rising_mark c.requires.direction in
    omega (arith, parts, mark)

pub loop-block-preserved : goal.loop-block-preserved
loop-block-preserved g c =
    let R = g.R.BitRegister in
    let block = c.loop-block.block in
    let parts = div-add-mod' c.args.count 4 in
    let less : (block * 4 + 4) * R.BITS ≤ c.args.count * R.BITS = mul-le-mul_right R.BITS (omega (arith, parts)) in
    let write : (c.args.to + block * 4) * R.BITS ≡ c.args.to * R.BITS + block * 4 * R.BITS = omega arith in
    let all : block * 4 * R.BITS + 4 * R.BITS ≡ (block + 1) * 4 * R.BITS = omega arith in
    let met : block * 4 + 4 ≡ (block + 1) * 4 = omega arith in
    joined_rising_within c.requires.direction c.requires.before (omega (arith, less, c.requires.from_in)) c.words_on-read.ensures.place write refl all met
    c.loop-block.invariant c.combine_block_rising_within.ensures

pub returns : goal.returns
returns g c =
    let R = g.R.BitRegister in
    let few = c.args.count % 4 in
    let parts = div-add-mod' c.args.count 4 in
    let done : c.args.count - few ≡ c.loop-block.block * 4 = omega (arith, parts) in
    let here : (c.args.count - few) * R.BITS ≡ c.loop-block.block * 4 * R.BITS = ap (λ v. v * R.BITS) done in
    let write : (c.args.to + (c.args.count - few)) * R.BITS ≡ c.args.to * R.BITS + c.loop-block.block * 4 * R.BITS = omega (arith, here) in
    let whole : c.loop-block.block * 4 + few ≡ c.args.count = omega (arith, parts) in
    let all : c.loop-block.block * 4 * R.BITS + few * R.BITS ≡ c.args.count * R.BITS = omega (arith, ap (λ v. v * R.BITS) whole) in
    joined_rising_within c.requires.direction c.requires.before c.requires.from_in (omega (arith, here, c.words_on-rest.ensures.place)) write
    (omega (arith, done)) all whole c.loop-block.invariant c.combine_few_rising_within-2.ensures
