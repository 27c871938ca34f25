use Rattle.std.proofs.Common.{◌<◌, length, arith}
use Rattle.std.proofs.lemmas.List.{length-map}
use Rattle.bitvec_span.specs.BitDomain.{word_bits}
use Rattle.bitvec_span.proofs.WordsLemmas.{met_within, read_known}
use Rattle.bitvec_span.proofs.domain.bit_words.BitWords.read.Goals as goal

pub read-requires : goal.read-requires
read-requires g c =
    let width = g.R.BitRegister.BITS in
    let some : 0 < width = omega (arith, g.met.R.BitRegister.width_at_least_8) in
    let words = c.args.self.now in
    c.word_pointer.ensures.inside (length words.words.now) (met_within width words.head words.len c.args.i (length words.words.now) some c.requires words.fits)

pub returns : goal.returns
returns g c =
    let width = g.R.BitRegister.BITS in
    let some : 0 < width = omega (arith, g.met.R.BitRegister.width_at_least_8) in
    let words = c.args.self.now in
    read_known width g.O.BitAt.at_of (word_bits g.R.BitRegister.number words) c.args.i _ c.read.result some c.requires (omega (arith, words.fits, length-map words.words.now g.R.BitRegister.number)) c.word_pointer.ensures.place c.read.ensures
