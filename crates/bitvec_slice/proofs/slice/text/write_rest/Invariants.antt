use Rattle.std.proofs.Common.{◌≡◌, ℕ, false, List, length, ◌++◌, map}
use Rattle.std.specs.Fmt.{IsFlush, HasWrittenStyled}
use Rattle.bitvec.specs.ItemText.{rest_text}
use Rattle.bitvec_slice.specs.Iter.{iter_left}
use Rattle.bitvec_slice.specs.SliceText.{digit_value}
use Rattle.bitvec_slice.proofs.slice.text.write_rest.Given as goal

-- what was written, and the text of the bits that are still to come, are the text of all
abbrev pub invariant-loop-bit : goal.invariant-loop-bit
invariant-loop-bit g l =
    IsFlush l.initial.f → (bs : List ℕ) × (HasWrittenStyled g.W.Write.write_str_gives l.initial.f bs l.f
    × (bs ++ rest_text 10 false (map digit_value (iter_left l.bit-iterator)) ≡ rest_text 10 false (map digit_value (iter_left l.initial.bit-iterator))))

-- how many bits are still to come
abbrev pub decreases-loop-bit : goal.decreases-loop-bit
decreases-loop-bit g l = length (iter_left l.bit-iterator)
