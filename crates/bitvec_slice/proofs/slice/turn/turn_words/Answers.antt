use Rattle.std.proofs.Common.{◌<◌, ◌-◌, length, map, sym, ap, ◌∙◌, arith}
use Rattle.std.proofs.lemmas.List.{get_or-map, length-map, map-set}
use Rattle.bitvec.specs.Digit.{digit}
use Rattle.bitvec_slice.proofs.WordTurns.{words_none, words_more, words_all}
use Rattle.bitvec_slice.proofs.slice.turn.turn_words.Goals as goal

pub loop-word-init : goal.loop-word-init
loop-word-init g c = words_none g.R.BitRegister.number g.R.BitRegister.BITS c.args.words.now c.reverse.new.self c.reverse.ensures.after

pub loop-word-preserved : goal.loop-word-preserved
loop-word-preserved g c =
    let bits = g.R.BitRegister.BITS in
    let number = g.R.BitRegister.number in
    let now = c.loop-word.words in
    let i = c.loop-word.word-index in
    let word = c.turned.result in
    let less : i < length now = omega (arith, c.loop-word-test.true, c.loop-word.auto.words) in
    let inside : i < length (map number now) = omega (arith, less, length-map now number) in
    let item = sym (get_or-map number now i c.word-item.result 0 less) in
    words_more bits (map number c.args.words.now) (map number now) _ i (number word) inside (map-set number now i word)
    (λ p small. c.turned.ensures p small ∙ ap (λ w. digit w (bits - 1 - p)) item)
    c.loop-word.invariant

pub returns : goal.returns
returns g c =
    let number = g.R.BitRegister.number in
    let old = map number c.args.words.now in
    let now = map number c.loop-word.words in
    words_all g.R.BitRegister.BITS old now c.loop-word.word-index
    (omega (arith, c.loop-word.invariant.words, length-map c.loop-word.words number, c.loop-word-test.false)) c.loop-word.invariant
