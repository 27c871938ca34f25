use Rattle.std.proofs.Common.{◌≡◌}
use Rattle.bitvec.specs.Span.{element}
use Rattle.bitvec.specs.Order.{number_of}
use Rattle.bitvec_vec.proofs.vec.bools.word_of_bools.Given as goal

abbrev pub invariant-loop-i : goal.invariant-loop-i
invariant-loop-i g l = g.R.BitRegister.number l.word ≡ number_of g.O.BitAt.at_of (element l.bits) l.i
