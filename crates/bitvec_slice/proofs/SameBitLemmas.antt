-- Lists compared and combined element by element.
use Rattle.std.proofs.Common.{◌≡◌, ◌↔◌, Bool, false, List, length, ap, ◌∙◌, arith}
use Rattle.std.proofs.lemmas.List.{ext_get_or}
use Rattle.bitvec.specs.Memory.{zip_with}
use Rattle.bitvec.specs.Span.{element}
use Rattle.bitvec.proofs.CombineLemmas.{get_or-zip_with}
use Rattle.bitvec_slice.specs.SameBits.{IsEach, AreSameBits}

-- lists of one length that are combined are so at each place
pub pairs_each : (f : Bool → Bool → Bool) (xs ys zs : List Bool) → length xs ≡ length ys → zs ≡ zip_with f xs ys → IsEach f xs ys zs
pairs_each f xs ys zs long is i h = ap (λ us. element us i) is ∙ get_or-zip_with f xs ys i false false false h (omega (arith, h, long))

-- lists are equal where they are so at each place
pub same_bits : (xs ys : List Bool) → (xs ≡ ys) ↔ AreSameBits xs ys
same_bits xs ys = (λ e. (ap length e, λ i h. ap (λ us. element us i) e), λ same. ext_get_or false xs ys same.0 same.1)
