use Rattle.std.proofs.Common.{◌-◌, ◌≤◌}
use Rattle.bitvec_slice.specs.Words.{SliceHasDigits}
use Rattle.bitvec_slice.proofs.slice.bit_slice.BitSlice.first_other.Given as goal

-- the words from word k on, up to here, have the digits
abbrev pub invariant-loop-at : goal.invariant-loop-at
invariant-loop-at g l =
    (l.k ≤ l.at) × (l.at ≤ l.end)
    × SliceHasDigits l.self l.lacking l.k l.at

abbrev pub decreases-loop-at : goal.decreases-loop-at
decreases-loop-at g l = l.end - l.at
