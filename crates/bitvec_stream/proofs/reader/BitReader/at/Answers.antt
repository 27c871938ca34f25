use Rattle.std.proofs.Common.{◌-◌, ap, ◌∙◌}
use Rattle.bitvec_slice.specs.BitSlice.{slice_bits}
use Rattle.bitvec_stream.proofs.KeepLemmas.{keeps_none}
use Rattle.bitvec_stream.proofs.reader.BitReader.at.Goals as goal

pub invariant_of-result-clause-shown : goal.invariant_of-result-clause-shown
invariant_of-result-clause-shown g c =
    let number = g.R.BitRegister.number in
    keeps_none g.R.BitRegister.BITS g.O.BitAt.at_of (slice_bits c.args.slice) (c.args.position - 0) (number c.ZERO.result) (ap number c.ZERO.ensures ∙ g.met.R.BitRegister.zero_is_0)
