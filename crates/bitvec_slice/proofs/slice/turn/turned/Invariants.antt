use Rattle.bitvec_slice.proofs.WordTurns.{IsTurnedTo}
use Rattle.bitvec_slice.proofs.slice.turn.turned.Given as goal

-- the stretches of `width` digits are in the opposite order, and the mask has every other one
abbrev pub invariant-loop-width : goal.invariant-loop-width
invariant-loop-width g l = let number = g.R.BitRegister.number in IsTurnedTo g.R.BitRegister.BITS l.width (number l.fn.word) (number l.mask) (number l.value)

-- the stretches get smaller
abbrev pub decreases-loop-width : goal.decreases-loop-width
decreases-loop-width g l = l.width
