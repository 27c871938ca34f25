use Rattle.bitvec_array.specs.BitArray.{array_bits}
use Rattle.example_life.proofs.LifeLemmas.{MadeTo}
use Rattle.example_life.proofs.life.next.Given as goal

-- the rows before this one are made
abbrev pub invariant-loop-i : goal.invariant-loop-i
invariant-loop-i g l = MadeTo array_bits l.rows l.out l.i
