use Rattle.bitvec_slice.specs.BitSlice.{slice_bits}
use Rattle.bitvec_slice.proofs.SameBitLemmas.{same_bits}
use Rattle.bitvec_slice.proofs.slice.bit_slice.BitSlice.equals.Goals as goal

pub returns-clause-each : goal.returns-clause-each
returns-clause-each g c =
    let same = same_bits (slice_bits c.args.self.now) (slice_bits c.args.other.now) in
    (λ yes. same.0 (c.has_bits.ensures.0 yes), λ each. c.has_bits.ensures.1 (same.1 each))
