use Rattle.std.proofs.Common.{◌≤◌}
use Rattle.bitvec_slice.specs.Words.{SliceHasDigits}
use Rattle.bitvec_slice.proofs.slice.bit_slice.BitSlice.pass_eights_back.Given as goal

-- the words from here on, to before word `end`, have the digits
abbrev pub invariant-loop-at : goal.invariant-loop-at
invariant-loop-at g l =
    (l.start ≤ l.at) × (l.at ≤ l.end)
    × SliceHasDigits l.self l.lacking l.at l.end

abbrev pub decreases-loop-at : goal.decreases-loop-at
decreases-loop-at g l = l.at
