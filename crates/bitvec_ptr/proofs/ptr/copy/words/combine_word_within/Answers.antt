use Rattle.bitvec_ptr.proofs.ptr.copy.words.combine_word_within.Goals as goal

pub returns : goal.returns
returns g c =
    let pair = c.pair_in-low in
    c.combine_pair.ensures c.args.writer.now.words.now c.args.from.word c.requires.from_in pair.ensures.low pair.ensures.high
