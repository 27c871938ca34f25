-- The orders of the two codes are those of the library.
use Rattle.std.proofs.Common.{◌≡◌, ◌≢◌, ℕ, ◌-◌, refl, sym, ap}
use Rattle.std.proofs.lemmas.Bool.{ne_eqb}
use Rattle.bitvec_call.specs.Order.{order_at}

pub first_order : (bits order : ℕ) → order ≡ 0 → order_at bits order ≡ (λ i. i)
first_order bits order e = rw e refl

pub last_order : (bits mask order : ℕ) → order ≢ 0 → mask ≡ bits - 1 → order_at bits order ≡ (λ i. mask - i)
last_order bits mask order other e =
    let below : ℕ → ℕ → ℕ = λ m i. m - i in
    rw (ne_eqb order 0 other) (ap below (sym e))
