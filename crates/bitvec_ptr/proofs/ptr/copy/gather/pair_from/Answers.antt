use Rattle.std.proofs.Common.{◌+◌, length, ap, sym, ◌∙◌, arith}
use Rattle.std.proofs.lemmas.List.{get_or-map}
use Rattle.bitvec_ptr.proofs.CopyLemmas.{word_in, next_word_in}
use Rattle.bitvec_ptr.proofs.ptr.copy.gather.pair_from.Goals as goal

pub bounds-source-from-then-from-count : goal.bounds-source-from-then-from-count
bounds-source-from-then-from-count g c =
    next_word_in g.R.BitRegister.BITS c.args.from.word c.args.from.bit c.args.count (length c.args.source.now) (omega arith) c.requires.from_in

pub returns-then-from-count-clause-high : goal.returns-then-from-count-clause-high
returns-then-from-count-clause-high g c = λ past.
    let R = g.R.BitRegister in
    let second = next_word_in R.BITS c.args.from.word c.args.from.bit c.args.count (length c.args.source.now) past c.requires.from_in in
    ap R.number c.index-source-from-then-from-count.is
    ∙ sym (get_or-map R.number c.args.source.now (c.args.from.word + 1) c.index-source-from-then-from-count.result 0 second)

pub returns-then-from-count-clause-low : goal.returns-then-from-count-clause-low
returns-then-from-count-clause-low g c =
    let R = g.R.BitRegister in
    let first = word_in R.BITS c.args.from.word c.args.from.bit c.args.count (length c.args.source.now) c.requires.some c.requires.from_in in
    ap R.number c.index-source-from.is ∙ sym (get_or-map R.number c.args.source.now c.args.from.word c.index-source-from.result 0 first)

pub returns-clause-low : goal.returns-clause-low
returns-clause-low g c =
    let R = g.R.BitRegister in
    let first = word_in R.BITS c.args.from.word c.args.from.bit c.args.count (length c.args.source.now) c.requires.some c.requires.from_in in
    ap R.number c.index-source-from.is ∙ sym (get_or-map R.number c.args.source.now c.args.from.word c.index-source-from.result 0 first)

pub returns-clause-high : goal.returns-clause-high
returns-clause-high g c = λ past. absurd (omega arith)
