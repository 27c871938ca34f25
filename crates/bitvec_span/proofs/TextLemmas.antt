-- The text of a negative number.
use Rattle.std.proofs.Common.{◌≡◌, ℤ, pos, negsuc, ◌<ℤ◌, ◌++◌, refl, arith}
use Rattle.std.specs.Prelude.{codes, nat_abs}
use Rattle.std.proofs.lemmas.Int.{ints}
use Rattle.bitvec_span.specs.Refusals.{signed_text}
use Rattle.bitvec_order.specs.Text.{decimal_text}

pub signed_text-negative : (n : ℤ) → n <ℤ pos 0 → signed_text n ≡ codes "-" ++ decimal_text (nat_abs n)
signed_text-negative (pos n) h = absurd (omega (arith, ints))
signed_text-negative (negsuc n) h = refl
