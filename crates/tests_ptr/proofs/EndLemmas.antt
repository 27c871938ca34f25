-- Distances at the ends of the signed numbers of 64 bits, in a memory of words of 8 bits.
use Rattle.std.proofs.Common.{◌≡◌, refl, sym, subst, lit<, lt_irrefl}
use Rattle.std.specs.Prelude.{pos, negsuc, nat_abs, FitsSigned}
use Rattle.std.specs.Int.{w64}
use Rattle.bitvec_ptr.specs.Place.{Ptr, greatest_isize}
use Rattle.bitvec_ptr.specs.PtrRange.{CanRange, count_of}
use Rattle.bitvec_ptr.specs.Steps.{distance}

abbrev origin : Ptr
origin = record { word = pos 0; bit = 0 }

abbrev last : Ptr
last = record { word = pos 1152921504606846975; bit = 7 }

-- what holds of two pointers holds of those that they are
at_both : (P : Ptr → Ptr → Type 0) (p q a b : Ptr) → p ≡ a → q ≡ b → P a b → P p q
at_both P p q a b e f h = subst (λ x. P x q) (sym e) (subst (λ y. P a y) (sym f) h)

pub greatest-distance : (p q : Ptr) → p ≡ last → q ≡ origin → FitsSigned w64 (distance 8 p q) × (distance 8 p q ≡ greatest_isize)
greatest-distance p q e f = at_both (λ x y. FitsSigned w64 (distance 8 x y) × (distance 8 x y ≡ greatest_isize)) p q last origin e f (record { sfits = lit< tt }, refl)

pub least-distance : (p q : Ptr) → p ≡ record { word = negsuc 1152921504606846975; bit = 0 } → q ≡ origin → FitsSigned w64 (distance 8 p q) × (distance 8 p q ≡ negsuc (nat_abs greatest_isize))
least-distance p q e f = at_both (λ x y. FitsSigned w64 (distance 8 x y) × (distance 8 x y ≡ negsuc (nat_abs greatest_isize))) p q (record { word = negsuc 1152921504606846975; bit = 0 }) origin e f (record { sfits = lit< tt }, refl)

pub past-distance : (p q : Ptr) → p ≡ record { word = pos 1152921504606846976; bit = 0 } → q ≡ origin → ¬ FitsSigned w64 (distance 8 p q)
past-distance p q e f = at_both (λ x y. ¬ FitsSigned w64 (distance 8 x y)) p q (record { word = pos 1152921504606846976; bit = 0 }) origin e f (λ h. lt_irrefl 9223372036854775808 h.sfits)

pub greatest-range : (p q : Ptr) → p ≡ origin → q ≡ last → CanRange 8 p q × (pos (count_of 8 (record { start = p; end = q })) ≡ greatest_isize)
greatest-range p q e f = at_both (λ x y. CanRange 8 x y × (pos (count_of 8 (record { start = x; end = y })) ≡ greatest_isize)) p q origin last e f ((record { le = tt }, record { le = tt }), refl)
