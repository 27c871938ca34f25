use Rattle.std.proofs.Common.{◌+◌}
use Rattle.bitvec_span.proofs.SliceLemmas.{map-slice}
use Rattle.bitvec_span.proofs.domain.bit_words_mut.BitWordsMut.words.Goals as goal

pub returns : goal.returns
returns g c = let bits = c.args.self.now in map-slice g.R.BitRegister.number bits.memory.now bits.first (bits.first + bits.count)
