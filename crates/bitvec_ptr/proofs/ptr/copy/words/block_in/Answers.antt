use Rattle.std.proofs.Common.{◌≡◌, ◌+◌, ◌*◌, ◌<◌, length, map, ap, ◌∙◌, arith, inl, inr}
use Rattle.std.specs.Prelude.{slice_index}
use Rattle.std.proofs.lemmas.Bool.{cases_lt}
use Rattle.bitvec_ptr.proofs.CopyLemmas.{word_is, word_in, block_word_in, block_next_in}
use Rattle.bitvec_ptr.proofs.ptr.copy.words.block_in.Goals as goal

pub last_of_block-last-requires : goal.last_of_block-last-requires
last_of_block-last-requires g c =
    let bits = g.R.BitRegister.BITS in
    let words = c.args.writer.now.words.now in
    let word = c.args.from.word in
    let bit = c.args.from.bit in
    let some : 0 < bits = omega (arith, g.met.R.BitRegister.width_at_least_8) in
    let fourth = block_word_in bits word bit 3 (length words) some (omega arith) c.requires in
    omega (arith, fourth)

pub get-two-requires : goal.get-two-requires
get-two-requires g c =
    let bits = g.R.BitRegister.BITS in
    let words = c.args.writer.now.words.now in
    let word = c.args.from.word in
    let bit = c.args.from.bit in
    let some : 0 < bits = omega (arith, g.met.R.BitRegister.width_at_least_8) in
    block_word_in bits word bit 1 (length words) some (omega arith) c.requires

pub get-three-requires : goal.get-three-requires
get-three-requires g c =
    let bits = g.R.BitRegister.BITS in
    let words = c.args.writer.now.words.now in
    let word = c.args.from.word in
    let bit = c.args.from.bit in
    let some : 0 < bits = omega (arith, g.met.R.BitRegister.width_at_least_8) in
    block_word_in bits word bit 2 (length words) some (omega arith) c.requires

pub get-four-requires : goal.get-four-requires
get-four-requires g c =
    let bits = g.R.BitRegister.BITS in
    let words = c.args.writer.now.words.now in
    let word = c.args.from.word in
    let bit = c.args.from.bit in
    let some : 0 < bits = omega (arith, g.met.R.BitRegister.width_at_least_8) in
    block_word_in bits word bit 3 (length words) some (omega arith) c.requires

pub get-five-requires : goal.get-five-requires
get-five-requires g c =
    let bits = g.R.BitRegister.BITS in
    let words = c.args.writer.now.words.now in
    let word = c.args.from.word in
    let bit = c.args.from.bit in
    let some : 0 < bits = omega (arith, g.met.R.BitRegister.width_at_least_8) in
    let fourth = block_word_in bits word bit 3 (length words) some (omega arith) c.requires in
    elim (cases_lt 0 bit) [
      | inl some_bit ↦ (
          let fifth = block_next_in bits word bit (length words) some_bit c.requires in
          omega (arith, fifth, c.last_of_block-last.ensures.fifth some_bit))
      | inr none ↦ omega (arith, fourth, c.last_of_block-last.ensures.fourth (omega arith))
    ]

pub returns-clause-one : goal.returns-clause-one
returns-clause-one g c =
    let bits = g.R.BitRegister.BITS in
    let words = c.args.writer.now.words.now in
    let word = c.args.from.word in
    let bit = c.args.from.bit in
    let some : 0 < bits = omega (arith, g.met.R.BitRegister.width_at_least_8) in
    word_is g.R.BitRegister.number words word c.get-one.result (word_in bits word bit (4 * bits) (length words) (omega arith) c.requires) c.get-one.ensures

pub returns-clause-two : goal.returns-clause-two
returns-clause-two g c =
    let bits = g.R.BitRegister.BITS in
    let words = c.args.writer.now.words.now in
    let word = c.args.from.word in
    let bit = c.args.from.bit in
    let some : 0 < bits = omega (arith, g.met.R.BitRegister.width_at_least_8) in
    word_is g.R.BitRegister.number words (word + 1) c.get-two.result (block_word_in bits word bit 1 (length words) some (omega arith) c.requires) c.get-two.ensures

pub returns-clause-three : goal.returns-clause-three
returns-clause-three g c =
    let bits = g.R.BitRegister.BITS in
    let words = c.args.writer.now.words.now in
    let word = c.args.from.word in
    let bit = c.args.from.bit in
    let some : 0 < bits = omega (arith, g.met.R.BitRegister.width_at_least_8) in
    word_is g.R.BitRegister.number words (word + 2) c.get-three.result (block_word_in bits word bit 2 (length words) some (omega arith) c.requires) c.get-three.ensures

pub returns-clause-four : goal.returns-clause-four
returns-clause-four g c =
    let bits = g.R.BitRegister.BITS in
    let words = c.args.writer.now.words.now in
    let word = c.args.from.word in
    let bit = c.args.from.bit in
    let some : 0 < bits = omega (arith, g.met.R.BitRegister.width_at_least_8) in
    word_is g.R.BitRegister.number words (word + 3) c.get-four.result (block_word_in bits word bit 3 (length words) some (omega arith) c.requires) c.get-four.ensures

pub returns-clause-five : goal.returns-clause-five
returns-clause-five g c = λ some_bit.
    let bits = g.R.BitRegister.BITS in
    let words = c.args.writer.now.words.now in
    let word = c.args.from.word in
    let bit = c.args.from.bit in
    let some : 0 < bits = omega (arith, g.met.R.BitRegister.width_at_least_8) in
    let last = c.last_of_block-last.result in
    let there : last ≡ word + 4 = c.last_of_block-last.ensures.fifth some_bit in
    let fifth = block_next_in bits word bit (length words) some_bit c.requires in
    word_is g.R.BitRegister.number words last c.get-five.result (omega (arith, fifth, there)) c.get-five.ensures
    ∙ ap (slice_index (map g.R.BitRegister.number words)) there
