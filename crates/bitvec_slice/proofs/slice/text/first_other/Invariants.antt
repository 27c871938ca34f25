use Rattle.bitvec_slice.specs.SliceText.{AreDigits}
use Rattle.bitvec_slice.proofs.slice.text.first_other.Given as goal

-- the characters so far are digits
abbrev pub invariant-loop-at : goal.invariant-loop-at
invariant-loop-at l = AreDigits l.text l.at
