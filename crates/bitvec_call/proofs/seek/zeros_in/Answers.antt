use Rattle.std.proofs.Common.{◌<◌, ℕ, Bool, List, refl, inl, inr, subst}
use Rattle.bitvec_slice.specs.Bits.{AreFree}
use Rattle.bitvec_call.proofs.seek.zeros_in.Goals as goal

pub returns-in-Some : goal.returns-in-Some
returns-in-Some g c =
    let i = c.in-Some.i in
    let zeros = c.args.zeros in
    inl (subst (λ (xs : List Bool). AreFree xs i zeros × ((k : ℕ) → k < i → ¬ AreFree xs k zeros)) c.bits-range.ensures.bits c.in-Some.ensures)

pub returns-in-None : goal.returns-in-None
returns-in-None g c =
    let zeros = c.args.zeros in
    inr (subst (λ (xs : List Bool). (k : ℕ) → ¬ AreFree xs k zeros) c.bits-range.ensures.bits c.in-None.ensures, refl)
