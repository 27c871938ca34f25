use Rattle.std.proofs.Common.{rules}
use Rattle.bits_text.specs.HiLo.{swapped_one_to_one}
use Rattle.bits_text.proofs.hilo.HiLoBitAt.at.Goals as goal

pub new_unchecked-requires : goal.new_unchecked-requires
new_unchecked-requires g c =
    let law = g.met.R.BitRegister in
    (swapped_one_to_one g.R.BitRegister.BITS g.R.BitRegister.INDX law.width_is_power_of_two law.exponent_at_least_3).below c.into_inner.result (search rules)
