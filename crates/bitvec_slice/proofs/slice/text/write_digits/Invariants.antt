use Rattle.std.proofs.Common.{◌≡◌, ℕ, List, length, ◌++◌}
use Rattle.std.specs.Fmt.{IsFlush, HasWrittenStyled}
use Rattle.bitvec_slice.specs.Iter.{iter_left}
use Rattle.bitvec_slice.specs.SliceText.{digits_text}
use Rattle.bitvec_slice.proofs.slice.text.write_digits.Given as goal

-- what was written, and the digits of the bits that are still to come, are the digits of all
abbrev pub invariant-loop-bit : goal.invariant-loop-bit
invariant-loop-bit g l =
    IsFlush l.initial.f → (bs : List ℕ) × (HasWrittenStyled g.W.Write.write_str_gives l.initial.f bs l.f
    × (bs ++ digits_text (iter_left l.bit-iterator) ≡ digits_text (iter_left l.initial.bit-iterator)))

-- how many bits are still to come
abbrev pub decreases-loop-bit : goal.decreases-loop-bit
decreases-loop-bit g l = length (iter_left l.bit-iterator)
