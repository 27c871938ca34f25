use Rattle.std.proofs.Common.{Bool, List, length, ap, ◌∙◌}
use Rattle.bitvec_slice.specs.Signed.{signed_of}
use Rattle.bitvec_stream.specs.Numbers.{number_le}
use Rattle.bitvec_stream.proofs.number.load_signed_le.Goals as goal

pub returns : goal.returns
returns g c = c.load_signed_le.ensures ∙ ap (λ (xs : List Bool). signed_of (length xs) (number_le xs)) c.copy_from_bitslice.ensures.0
