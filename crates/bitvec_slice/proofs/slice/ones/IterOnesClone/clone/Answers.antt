use Rattle.std.proofs.Common.{◌≡◌, true, sym, ap, subst}
use mathlib.Core.Bool.{Bool-set}
use Rattle.bitvec_slice.specs.declared.slice.ahead.Ahead.{Ahead}
use Rattle.bitvec_slice.proofs.slice.ones.IterOnesClone.clone.Goals as goal

pub returns : goal.returns
returns g c =
    let it = c.args.self.now in
    let same : (b : it.ahead.bit ≡ true) → record it { of_ones = b } ≡ it = λ b.
    ap (λ (k : it.ahead.bit ≡ true). record it { of_ones = k }) (Bool-set it.ahead.bit true b it.of_ones) in
    let all = subst (λ (a : Ahead _ _ _ _ _ _ _ _ _ _ _). (b : a.bit ≡ true) → record it { ahead = a; of_ones = b } ≡ it) (sym c.copied.ensures) same in
    record { cases = all _ }
