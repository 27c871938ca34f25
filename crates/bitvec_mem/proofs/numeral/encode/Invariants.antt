use Rattle.std.proofs.Common.{◌≡◌, ◌≤◌, ◌<◌, drop, ◌^◌, ◌++◌, length}
use Rattle.bitvec_mem.specs.Numeral.{numeral}
use Rattle.bitvec_mem.proofs.numeral.encode.Given as goal

abbrev pub invariant-loop-rest : goal.invariant-loop-rest
invariant-loop-rest l = record {
  in_range : l.at ≤ 128;
  whole : length l.out ≡ 128;
  fits : l.rest < 2 ^ l.at;
  short : l.owed ≤ l.at;
  text : numeral l.base l.upper l.owed l.rest ++ drop l.at l.out ≡ numeral l.base l.upper l.least l.n;
}

abbrev pub decreases-loop-rest : goal.decreases-loop-rest
decreases-loop-rest l = l.at
