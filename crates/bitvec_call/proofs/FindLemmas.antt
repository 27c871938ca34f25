-- What is found in a range, as it is told of a slice over the range.
use Rattle.std.proofs.Common.{◌≡◌, Bool, List, sym, subst}

-- what holds of a kind of bit and of a list holds of what they equal
pub at_equals : (P : Bool → List Bool → Type 0) {bit kind : Bool} {xs ys : List Bool}
    → bit ≡ kind → xs ≡ ys → P kind xs → P bit ys
at_equals P {bit} {kind} {xs} {ys} is same holds =
    subst (λ (k : Bool). P k ys) (sym is)
    (subst (λ (zs : List Bool). P kind zs) same holds)
