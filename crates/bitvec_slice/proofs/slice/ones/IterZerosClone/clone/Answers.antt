use Rattle.std.proofs.Common.{◌≡◌, false, sym, ap, subst}
use mathlib.Core.Bool.{Bool-set}
use Rattle.bitvec_slice.specs.declared.slice.ahead.Ahead.{Ahead}
use Rattle.bitvec_slice.proofs.slice.ones.IterZerosClone.clone.Goals as goal

pub returns : goal.returns
returns g c =
    let it = c.args.self.now in
    let same : (b : it.ahead.bit ≡ false) → record it { of_zeros = b } ≡ it = λ b.
    ap (λ (k : it.ahead.bit ≡ false). record it { of_zeros = k }) (Bool-set it.ahead.bit false b it.of_zeros) in
    let all = subst (λ (a : Ahead _ _ _ _ _ _ _ _ _ _ _). (b : a.bit ≡ false) → record it { ahead = a; of_zeros = b } ≡ it) (sym c.copied.ensures) same in
    record { cases = all _ }
