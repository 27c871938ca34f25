use Rattle.std.proofs.Common.{ap, ◌∙◌}
use Rattle.bitvec_slice.specs.Numbers.{number_be}
use Rattle.bitvec_slice.proofs.field.digits.load_copied_be.Goals as goal

pub returns : goal.returns
returns g c = c.load_be.ensures.number ∙ ap number_be c.copy_from_bitslice.ensures.0
