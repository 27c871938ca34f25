use Rattle.std.proofs.Common.{ap, ◌∙◌}
use Rattle.bitvec_slice.specs.Numbers.{number_le}
use Rattle.bitvec_slice.proofs.field.digits.load_copied_le.Goals as goal

pub returns : goal.returns
returns g c = c.load_le.ensures.number ∙ ap number_le c.copy_from_bitslice.ensures.0
