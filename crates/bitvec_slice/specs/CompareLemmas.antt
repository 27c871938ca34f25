-- That truth values are equal exactly where their order does not tell them apart.
use Rattle.std.specs.Prelude.{◌≡◌, Bool, true, false, refl}
use Rattle.std.specs.Bool.{beq}
use Rattle.std.specs.Ordering.{eq_by_cmp, bool_cmp}

pub bools_tied : (x y : Bool) → beq x y ≡ eq_by_cmp bool_cmp x y
bools_tied true true = refl
bools_tied true false = refl
bools_tied false true = refl
bools_tied false false = refl
