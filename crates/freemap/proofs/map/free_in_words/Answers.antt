use Rattle.std.proofs.Common.{arith}
use Rattle.freemap.proofs.WordLemmas.{full_word, full_word_short, first_free}
use Rattle.freemap.proofs.map.free_in_words.Goals as goal

pub offset_bounds-words-w : goal.offset_bounds-words-w
offset_bounds-words-w g c = omega (arith, c.requires.inside, c.requires.room)

pub bounds-words-w : goal.bounds-words-w
bounds-words-w g c = omega (arith, c.requires.inside, c.requires.room)

pub returns-in_err-i : goal.returns-in_err-i
returns-in_err-i g c =
    rw c.from_residual.ensures (full_word g.O.BitAt.at_of c.args.blocks c.args.words.now c.args.w c.not.result g.met.O.BitOrder.one_to_one c.not.ensures.digits (λ i h. c.in_err-i.ensures i h))

pub overflow_mul-block : goal.overflow_mul-block
overflow_mul-block g c = omega (arith, c.requires.inside, c.requires.room)

pub overflow_add-block : goal.overflow_add-block
overflow_add-block g c =
    let small = c.in_ok-i.ensures.0 in
    omega (arith, c.requires.inside, c.requires.room, c.from.ensures, small)

pub returns-then-block-blocks : goal.returns-then-block-blocks
returns-then-block-blocks g c =
    rw c.from.ensures (first_free g.O.BitAt.at_of c.args.blocks c.args.words.now c.args.w c.not.result g.met.O.BitOrder.one_to_one c.not.ensures.digits c.in_ok-i.i c.in_ok-i.ensures (omega (arith, c.from.ensures, c.if-block-blocks.true)))

pub returns-else-block-blocks : goal.returns-else-block-blocks
returns-else-block-blocks g c =
    full_word_short g.O.BitAt.at_of c.args.blocks c.args.words.now c.args.w c.not.result g.met.O.BitOrder.one_to_one c.not.ensures.digits c.in_ok-i.i c.in_ok-i.ensures (omega (arith, c.from.ensures, c.if-block-blocks.false))
