use Rattle.std.proofs.Common.{◌<◌, ◌≤◌, ◌^◌, ◌-◌}
use Rattle.bitvec_slice.specs.FreeRuns.{digit_of, AreStarts}
use Rattle.bitvec_slice.proofs.slice.free_runs.starts_in.Given as goal

-- a one of `starts` is the first of `have`
abbrev pub invariant-loop-have : goal.invariant-loop-have
invariant-loop-have g l = record {
  some : 0 < l.have;
  most : l.have ≤ l.count;
  below : g.R.BitRegister.number l.starts < 2 ^ g.R.BitRegister.BITS;
  are : AreStarts (digit_of g.R.BitRegister.BITS l.rises (g.R.BitRegister.number l.fn.word)) l.have (digit_of g.R.BitRegister.BITS l.rises (g.R.BitRegister.number l.starts));
}

abbrev pub decreases-loop-have : goal.decreases-loop-have
decreases-loop-have g l = l.count - l.have
