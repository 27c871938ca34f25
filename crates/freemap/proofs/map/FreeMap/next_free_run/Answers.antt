use Rattle.std.proofs.Common.{Bool, List, true, length, subst}
use Rattle.std.specs.Prelude.{MatchOption}
use Rattle.bitvec_slice.specs.Bits.{AllBetween}
use Rattle.freemap.specs.FreeRuns.{IsNextRun}
use Rattle.freemap.proofs.map.FreeMap.next_free_run.Goals as goal

pub returns : goal.returns
returns g c =
    let from = c.args.from in
    subst (λ (xs : List Bool). MatchOption c.run_after.result (AllBetween true xs from (length xs)) (λ run. IsNextRun xs from run.0 run.1)) c.bits.ensures c.run_after.ensures
