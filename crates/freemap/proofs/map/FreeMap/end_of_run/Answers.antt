use Rattle.std.proofs.Common.{Bool, List, ◌∙◌, ◌<◌, ap, sym, length, subst, arith}
use Rattle.bitvec_slice.specs.BitSlice.{slice_bits}
use Rattle.freemap.specs.FreeRuns.{IsEnd}
use Rattle.freemap.specs.Map.{in_use}
use Rattle.bitvec.specs.Span.{element}
use Rattle.freemap.proofs.map.FreeMap.end_of_run.Goals as goal

pub end_of_free-requires : goal.end_of_free-requires
end_of_free-requires g c =
    let at = c.args.at in
    let is = c.bits.ensures in
    let room = c.requires.0 in
    record {
      inside = omega (arith, room, ap length is);
      free = ap (λ (xs : List Bool). element xs at) is ∙ c.requires.1 at (omega arith) (omega arith);
    }

pub returns : goal.returns
returns g c = subst (λ (xs : List Bool). IsEnd xs c.args.at c.end_of_free.result) c.bits.ensures c.end_of_free.ensures
