use Rattle.std.proofs.Common.{◌≡◌, ◌+◌, ◌*◌, ◌≤◌, length, map, refl, ap, sym, ◌∙◌, arith, rules}
use Rattle.std.specs.Prelude.{slice_index}
use Rattle.std.proofs.Math.Nat.{mul-le-mul_right}
use Rattle.bitvec_ptr.proofs.WriterJoins.{joined_falling}
use Rattle.bitvec_ptr.proofs.ptr.copy.words.combine_block_falling_within.Goals as goal

pub returns : goal.returns
returns g c =
    let R = g.R.BitRegister in
    let one = R.BITS in
    let words = c.args.writer.now.words.now in
    let word = c.args.from.word in
    let read = c.block_in-one in
    let room : (c.args.to + 4) * R.BITS ≤ length words * R.BITS = mul-le-mul_right R.BITS c.requires.to_in in
    let two : one + one ≡ 2 * R.BITS = omega arith in
    let three : one + 2 * R.BITS ≡ 3 * R.BITS = omega arith in
    let four : one + 3 * R.BITS ≡ 4 * R.BITS = omega arith in
    let first = c.combine_whole.ensures words (word + 3) (omega (arith, c.requires.from_in)) read.ensures.four (λ past. read.ensures.five past ∙ ap (slice_index (map R.number words)) (let e : word + 4 ≡ word + 3 + 1 = omega arith in e)) in
    let second = c.combine_whole-2.ensures words (word + 2) (omega (arith, c.requires.from_in)) read.ensures.three (λ past. read.ensures.four ∙ ap (slice_index (map R.number words)) (let e : word + 3 ≡ word + 2 + 1 = omega arith in e)) in
    let third = c.combine_whole-3.ensures words (word + 1) (omega (arith, c.requires.from_in)) read.ensures.two (λ past. read.ensures.three ∙ ap (slice_index (map R.number words)) (let e : word + 2 ≡ word + 1 + 1 = omega arith in e)) in
    let fourth = c.combine_whole-4.ensures words word (omega (arith, c.requires.from_in)) read.ensures.one (λ past. read.ensures.two) in
    let half =
    joined_falling c.requires.direction (omega (arith, room)) (omega (arith, c.requires.from_in)) (omega arith) (omega arith) refl refl refl two refl first second in
    let more =
    joined_falling c.requires.direction (omega (arith, room)) (omega (arith, c.requires.from_in)) (omega arith) (omega arith) refl refl refl three refl half third in
    joined_falling c.requires.direction (omega (arith, room)) c.requires.from_in (omega arith) (omega arith) refl refl refl four refl more fourth

pub combine_whole-requires-2-clause-to_in : goal.combine_whole-requires-2-clause-to_in
combine_whole-requires-2-clause-to_in g c =
    let R = g.R.BitRegister in
    let words = c.args.writer.now.words.now in
    let word = c.args.from.word in
    let read = c.block_in-one in
    let first = c.combine_whole.ensures words (word + 3) (omega (arith, c.requires.from_in)) read.ensures.four (λ past. read.ensures.five past ∙ ap (slice_index (map R.number words)) (let e : word + 4 ≡ word + 3 + 1 = omega arith in e)) in
    omega (arith, c.requires.to_in, first.len)

pub combine_whole-requires-2-clause-falling : goal.combine_whole-requires-2-clause-falling
combine_whole-requires-2-clause-falling g c =
    let R = g.R.BitRegister in
    let words = c.args.writer.now.words.now in
    let word = c.args.from.word in
    let read = c.block_in-one in
    let first = c.combine_whole.ensures words (word + 3) (omega (arith, c.requires.from_in)) read.ensures.four (λ past. read.ensures.five past ∙ ap (slice_index (map R.number words)) (let e : word + 4 ≡ word + 3 + 1 = omega arith in e)) in
    λ down. omega (arith, first.falling_mark c.requires.direction)

pub combine_whole-requires-2-clause-rising : goal.combine_whole-requires-2-clause-rising
combine_whole-requires-2-clause-rising g c =
    let R = g.R.BitRegister in
    let words = c.args.writer.now.words.now in
    let word = c.args.from.word in
    let read = c.block_in-one in
    let first = c.combine_whole.ensures words (word + 3) (omega (arith, c.requires.from_in)) read.ensures.four (λ past. read.ensures.five past ∙ ap (slice_index (map R.number words)) (let e : word + 4 ≡ word + 3 + 1 = omega arith in e)) in
    let e = first.direction ∙ c.requires.direction in
    λ up. search (rules, sym e ∙ up)

pub combine_whole-requires-3-clause-to_in : goal.combine_whole-requires-3-clause-to_in
combine_whole-requires-3-clause-to_in g c =
    let R = g.R.BitRegister in
    let words = c.args.writer.now.words.now in
    let word = c.args.from.word in
    let read = c.block_in-one in
    let first = c.combine_whole.ensures words (word + 3) (omega (arith, c.requires.from_in)) read.ensures.four (λ past. read.ensures.five past ∙ ap (slice_index (map R.number words)) (let e : word + 4 ≡ word + 3 + 1 = omega arith in e)) in
    let second = c.combine_whole-2.ensures words (word + 2) (omega (arith, c.requires.from_in)) read.ensures.three (λ past. read.ensures.four ∙ ap (slice_index (map R.number words)) (let e : word + 3 ≡ word + 2 + 1 = omega arith in e)) in
    omega (arith, c.requires.to_in, first.len, second.len)

pub combine_whole-requires-3-clause-falling : goal.combine_whole-requires-3-clause-falling
combine_whole-requires-3-clause-falling g c =
    let R = g.R.BitRegister in
    let words = c.args.writer.now.words.now in
    let word = c.args.from.word in
    let read = c.block_in-one in
    let first = c.combine_whole.ensures words (word + 3) (omega (arith, c.requires.from_in)) read.ensures.four (λ past. read.ensures.five past ∙ ap (slice_index (map R.number words)) (let e : word + 4 ≡ word + 3 + 1 = omega arith in e)) in
    let second = c.combine_whole-2.ensures words (word + 2) (omega (arith, c.requires.from_in)) read.ensures.three (λ past. read.ensures.four ∙ ap (slice_index (map R.number words)) (let e : word + 3 ≡ word + 2 + 1 = omega arith in e)) in
    λ down. omega (arith, second.falling_mark (first.direction ∙ c.requires.direction))

pub combine_whole-requires-3-clause-rising : goal.combine_whole-requires-3-clause-rising
combine_whole-requires-3-clause-rising g c =
    let R = g.R.BitRegister in
    let words = c.args.writer.now.words.now in
    let word = c.args.from.word in
    let read = c.block_in-one in
    let first = c.combine_whole.ensures words (word + 3) (omega (arith, c.requires.from_in)) read.ensures.four (λ past. read.ensures.five past ∙ ap (slice_index (map R.number words)) (let e : word + 4 ≡ word + 3 + 1 = omega arith in e)) in
    let second = c.combine_whole-2.ensures words (word + 2) (omega (arith, c.requires.from_in)) read.ensures.three (λ past. read.ensures.four ∙ ap (slice_index (map R.number words)) (let e : word + 3 ≡ word + 2 + 1 = omega arith in e)) in
    let e = second.direction ∙ first.direction ∙ c.requires.direction in
    λ up. search (rules, sym e ∙ up)

pub combine_whole-requires-4-clause-to_in : goal.combine_whole-requires-4-clause-to_in
combine_whole-requires-4-clause-to_in g c =
    let R = g.R.BitRegister in
    let words = c.args.writer.now.words.now in
    let word = c.args.from.word in
    let read = c.block_in-one in
    let first = c.combine_whole.ensures words (word + 3) (omega (arith, c.requires.from_in)) read.ensures.four (λ past. read.ensures.five past ∙ ap (slice_index (map R.number words)) (let e : word + 4 ≡ word + 3 + 1 = omega arith in e)) in
    let second = c.combine_whole-2.ensures words (word + 2) (omega (arith, c.requires.from_in)) read.ensures.three (λ past. read.ensures.four ∙ ap (slice_index (map R.number words)) (let e : word + 3 ≡ word + 2 + 1 = omega arith in e)) in
    let third = c.combine_whole-3.ensures words (word + 1) (omega (arith, c.requires.from_in)) read.ensures.two (λ past. read.ensures.three ∙ ap (slice_index (map R.number words)) (let e : word + 2 ≡ word + 1 + 1 = omega arith in e)) in
    omega (arith, c.requires.to_in, first.len, second.len, third.len)

pub combine_whole-requires-4-clause-falling : goal.combine_whole-requires-4-clause-falling
combine_whole-requires-4-clause-falling g c =
    let R = g.R.BitRegister in
    let words = c.args.writer.now.words.now in
    let word = c.args.from.word in
    let read = c.block_in-one in
    let first = c.combine_whole.ensures words (word + 3) (omega (arith, c.requires.from_in)) read.ensures.four (λ past. read.ensures.five past ∙ ap (slice_index (map R.number words)) (let e : word + 4 ≡ word + 3 + 1 = omega arith in e)) in
    let second = c.combine_whole-2.ensures words (word + 2) (omega (arith, c.requires.from_in)) read.ensures.three (λ past. read.ensures.four ∙ ap (slice_index (map R.number words)) (let e : word + 3 ≡ word + 2 + 1 = omega arith in e)) in
    let third = c.combine_whole-3.ensures words (word + 1) (omega (arith, c.requires.from_in)) read.ensures.two (λ past. read.ensures.three ∙ ap (slice_index (map R.number words)) (let e : word + 2 ≡ word + 1 + 1 = omega arith in e)) in
    λ down. omega (arith, third.falling_mark (second.direction ∙ first.direction ∙ c.requires.direction))

pub combine_whole-requires-4-clause-rising : goal.combine_whole-requires-4-clause-rising
combine_whole-requires-4-clause-rising g c =
    let R = g.R.BitRegister in
    let words = c.args.writer.now.words.now in
    let word = c.args.from.word in
    let read = c.block_in-one in
    let first = c.combine_whole.ensures words (word + 3) (omega (arith, c.requires.from_in)) read.ensures.four (λ past. read.ensures.five past ∙ ap (slice_index (map R.number words)) (let e : word + 4 ≡ word + 3 + 1 = omega arith in e)) in
    let second = c.combine_whole-2.ensures words (word + 2) (omega (arith, c.requires.from_in)) read.ensures.three (λ past. read.ensures.four ∙ ap (slice_index (map R.number words)) (let e : word + 3 ≡ word + 2 + 1 = omega arith in e)) in
    let third = c.combine_whole-3.ensures words (word + 1) (omega (arith, c.requires.from_in)) read.ensures.two (λ past. read.ensures.three ∙ ap (slice_index (map R.number words)) (let e : word + 2 ≡ word + 1 + 1 = omega arith in e)) in
    let e = third.direction ∙ second.direction ∙ first.direction ∙ c.requires.direction in
    λ up. search (rules, sym e ∙ up)
