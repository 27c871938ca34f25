use Rattle.std.proofs.Common.{◌≡◌, ℕ, ◌<◌, ◌^◌}
use Rattle.bitvec_mem.proofs.DigitLemmas.{one_digit}
use Rattle.bitvec_order.proofs.index.BitSel.into_inner.Goals as goal

pub returns-clause-position : goal.returns-clause-position
returns-clause-position g c =
    let place : (n : ℕ) → (p : ℕ) × (p < g.R.BitRegister.BITS) × (n ≡ 2 ^ p) → (p : ℕ) × (p < g.R.BitRegister.BITS) × (n ≡ 2 ^ p) = λ n h. h in
    rw (← c.self.view_is) (one_digit g.R.BitRegister.BITS _ c.self.invariant.0 c.self.invariant.1)
