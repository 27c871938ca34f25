use Rattle.std.proofs.Common.{◌≡◌, ◌+◌, ◌↔◌, ◌∙◌, Bool, List, true, sym, subst, arith}
use Rattle.std.specs.Prelude.{IsTrue}
use Rattle.bitvec_slice.specs.Bits.{AllBetween}
use Rattle.freemap.specs.Blocks.{AreInUse}
use Rattle.freemap.specs.Map.{in_use}
use Rattle.freemap.proofs.StretchRuns.{one_in_use}
use Rattle.freemap.proofs.map.FreeMap.is_in_use.Goals as goal

pub returns-then-count-eq1 : goal.returns-then-count-eq1
returns-then-count-eq1 g c =
    let used = in_use c.args.self.now in
    let at = c.args.at in
    let there = c.has_blocks.ensures.0 c.if-not-has_blocks.false in
    let one = one_in_use used at (omega (arith, there, c.if-count-eq1.true)) in
    let shows : IsTrue c.is_set.result ↔ AreInUse used at 1 = (λ yes. one.0 (sym c.is_set.ensures ∙ yes), λ all. c.is_set.ensures ∙ one.1 all) in
    subst (λ n. IsTrue c.is_set.result ↔ AreInUse used at n) (sym c.if-count-eq1.true) shows

pub is_set-requires : goal.is_set-requires
is_set-requires g c = (let there = c.has_blocks.ensures.0 c.if-not-has_blocks.false in omega (arith, there, c.if-count-eq1.true))

pub returns : goal.returns
returns g c =
    let shows = subst (λ (xs : List Bool). IsTrue c.all_in.result ↔ AllBetween true xs c.args.at (c.args.at + c.args.count)) c.bits.ensures c.all_in.ensures in
    (λ yes. (c.has_blocks.ensures.0 c.if-not-has_blocks.false, shows.0 yes), λ all. shows.1 all.1)
