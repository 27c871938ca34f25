use Rattle.std.proofs.Common.{◌+◌, ◌<◌, length, arith}
use Rattle.bitvec_ptr.proofs.CopyLemmas.{word_is, word_in, next_word_in}
use Rattle.bitvec_ptr.proofs.ptr.copy.gather.pair_in.Goals as goal

pub get-low-requires : goal.get-low-requires
get-low-requires g c =
    word_in g.R.BitRegister.BITS c.args.from.word c.args.from.bit c.args.count (length c.args.writer.now.words.now) c.requires.some c.requires.from_in

pub get-high-requires : goal.get-high-requires
get-high-requires g c =
    next_word_in g.R.BitRegister.BITS c.args.from.word c.args.from.bit c.args.count (length c.args.writer.now.words.now) (omega arith)
    c.requires.from_in

pub returns-then-from-count-clause-low : goal.returns-then-from-count-clause-low
returns-then-from-count-clause-low g c =
    let words = c.args.writer.now.words.now in
    let first : c.args.from.word < length words =
    word_in g.R.BitRegister.BITS c.args.from.word c.args.from.bit c.args.count (length words) c.requires.some c.requires.from_in in
    word_is g.R.BitRegister.number words c.args.from.word c.get-low.result first c.get-low.ensures

pub returns-then-from-count-clause-high : goal.returns-then-from-count-clause-high
returns-then-from-count-clause-high g c = λ past.
    let words = c.args.writer.now.words.now in
    let second : c.args.from.word + 1 < length words =
    next_word_in g.R.BitRegister.BITS c.args.from.word c.args.from.bit c.args.count (length words) past c.requires.from_in in
    word_is g.R.BitRegister.number words (c.args.from.word + 1) c.get-high.result second c.get-high.ensures

pub returns-clause-low : goal.returns-clause-low
returns-clause-low g c =
    let words = c.args.writer.now.words.now in
    let first : c.args.from.word < length words =
    word_in g.R.BitRegister.BITS c.args.from.word c.args.from.bit c.args.count (length words) c.requires.some c.requires.from_in in
    word_is g.R.BitRegister.number words c.args.from.word c.get-low.result first c.get-low.ensures
