use Rattle.std.proofs.Common.{Bool, List, true, false, length, subst}
use Rattle.std.specs.Prelude.{MatchOption}
use Rattle.bitvec_slice.specs.Bits.{AllBetween, IsFirstBetween}
use Rattle.freemap.specs.Map.{in_use}
use Rattle.freemap.proofs.SearchLemmas.{lowest_from}
use Rattle.freemap.proofs.map.FreeMap.free_from.Goals as goal

pub returns : goal.returns
returns g c =
    let from = c.args.block in
    let found = subst (λ (xs : List Bool). MatchOption c.next_zero.result (AllBetween true xs from (length xs)) (IsFirstBetween false xs from (length xs))) c.bits.ensures c.next_zero.ensures in
    lowest_from (in_use c.args.self.now) from c.next_zero.result found
