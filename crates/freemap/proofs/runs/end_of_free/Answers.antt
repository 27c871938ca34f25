use Rattle.std.proofs.Common.{sym, subst}
use Rattle.bitvec_slice.specs.BitSlice.{slice_bits}
use Rattle.freemap.specs.FreeRuns.{IsEnd}
use Rattle.freemap.proofs.RunLemmas.{end_is, end_is_all}
use Rattle.freemap.proofs.runs.end_of_free.Goals as goal

pub returns-in-Some : goal.returns-in-Some
returns-in-Some g c = end_is (slice_bits c.args.bits.now) c.args.at c.in-Some.end c.requires.free c.in-Some.ensures

pub returns-in-None : goal.returns-in-None
returns-in-None g c =
    let used = slice_bits c.args.bits.now in
    let all = end_is_all used c.args.at c.requires.inside c.in-None.ensures in
    subst (λ n. IsEnd used c.args.at n) (sym c.len.ensures.list) all
