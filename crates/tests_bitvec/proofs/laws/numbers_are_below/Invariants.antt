use Rattle.std.proofs.Common.{◌<◌, ◌^◌, take, All}
use Rattle.tests_bitvec.proofs.laws.numbers_are_below.Given as goal

-- the words so far
abbrev pub invariant-loop-word : goal.invariant-loop-word
invariant-loop-word g l = All (λ word. g.R.BitRegister.number word < 2 ^ g.R.BitRegister.BITS) (take l.word-index l.memory)
