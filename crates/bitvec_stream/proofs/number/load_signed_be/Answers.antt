use Rattle.std.proofs.Common.{Bool, List, length, ap, ◌∙◌}
use Rattle.bitvec_slice.specs.Signed.{signed_of}
use Rattle.bitvec_stream.specs.Numbers.{number_be}
use Rattle.bitvec_stream.proofs.number.load_signed_be.Goals as goal

pub returns : goal.returns
returns g c = c.load_signed_be.ensures ∙ ap (λ (xs : List Bool). signed_of (length xs) (number_be xs)) c.copy_from_bitslice.ensures.0
