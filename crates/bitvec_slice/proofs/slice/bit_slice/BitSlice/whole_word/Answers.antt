use Rattle.std.proofs.Common.{arith}
use Rattle.bitvec_slice.specs.BitSlice.{slice_span}
use Rattle.bitvec_slice.proofs.WholeWordLemmas.{whole_is_met}
use Rattle.bitvec_slice.proofs.slice.bit_slice.BitSlice.whole_word.Goals as goal

pub word_met-requires-clause-met : goal.word_met-requires-clause-met
word_met-requires-clause-met g c =
    whole_is_met g.R.BitRegister.BITS (slice_span c.args.self.now) c.args.k (omega (arith, g.met.R.BitRegister.width_at_least_8)) c.requires
