use Rattle.std.proofs.Common.{◌≡◌, ◌⊎◌, ℕ, ◌+◌, ◌<◌, ◌≤◌}
use Rattle.bitvec_mem.specs.Digit.{digit}
use Rattle.bitvec_ptr.proofs.ptr.copy.gather.singly.Given as goal

abbrev pub invariant-loop-done : goal.invariant-loop-done
invariant-loop-done g l =
    let R = g.R.BitRegister in
    let R2 = g.R2.BitRegister in
    let at = g.O.BitAt.at_of in
    let at2 = g.O2.BitAt.at_of in
    record {
      inside : (j : ℕ) → j < l.done → digit (R2.number l.gathered) (at2 (l.bit + j)) ≡ digit (R.number l.read) (at (l.from + j));
      outside : (j : ℕ) → j < R2.BITS → (j < l.bit) ⊎ (l.bit + l.done ≤ j)
          → digit (R2.number l.gathered) (at2 j) ≡ digit (R2.number l.fn.word) (at2 j);
    }
