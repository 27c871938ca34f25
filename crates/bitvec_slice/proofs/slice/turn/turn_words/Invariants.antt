use Rattle.std.proofs.Common.{map}
use Rattle.bitvec_slice.proofs.WordTurns.{IsTurnedUpto}
use Rattle.bitvec_slice.proofs.slice.turn.turn_words.Given as goal

-- the words are in the opposite order, and those so far have their digits in the opposite order too
abbrev pub invariant-loop-word : goal.invariant-loop-word
invariant-loop-word g l = let number = g.R.BitRegister.number in IsTurnedUpto g.R.BitRegister.BITS (map number l.fn.words) (map number l.words) l.word-index
