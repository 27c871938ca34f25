use Rattle.std.proofs.Common.{◌≡◌, ◌⊎◌, ℕ, ◌+◌, ◌-◌, ◌*◌, ◌<◌, ◌≤◌, map}
use Rattle.bitvec_mem.specs.Digit.{digit}
use Rattle.bitvec_ptr.specs.Memory.{bit_of}
use Rattle.bitvec_ptr.proofs.ptr.copy.gather.gathered_across_widths.Given as goal

abbrev pub invariant-loop-done : goal.invariant-loop-done
invariant-loop-done g l =
    let R = g.R.BitRegister in
    let R2 = g.R2.BitRegister in
    let at2 = g.O2.BitAt.at_of in
    let s = l.fn.from.word * R.BITS + l.fn.from.bit in
    record {
      most : l.done ≤ l.count;
      reads : l.done < l.count → l.read.word * R.BITS + l.read.bit ≡ s + l.done;
      inside : (j : ℕ) → j < l.done → digit (R2.number l.gathered) (at2 (l.bit + j)) ≡ bit_of R.BITS g.O.BitAt.at_of (map R.number l.source) (s + j);
      outside : (j : ℕ) → j < R2.BITS → (j < l.bit) ⊎ (l.bit + l.done ≤ j)
          → digit (R2.number l.gathered) (at2 j) ≡ digit (R2.number l.fn.word) (at2 j);
    }

abbrev pub decreases-loop-done : goal.decreases-loop-done
decreases-loop-done g l = l.count - l.done
