use Rattle.std.proofs.Common.{◌≡◌, ◌+◌, ◌↔◌, Bool, List, false, not, sym, subst, arith}
use Rattle.std.specs.Prelude.{IsTrue}
use Rattle.bitvec_slice.specs.Bits.{AllBetween, AreFree}
use Rattle.freemap.specs.Map.{in_use}
use Rattle.freemap.proofs.SearchLemmas.{turned}
use Rattle.freemap.proofs.StretchRuns.{one_is_free}
use Rattle.freemap.proofs.map.FreeMap.is_free.Goals as goal

pub returns-then-count-eq1 : goal.returns-then-count-eq1
returns-then-count-eq1 g c =
    let used = in_use c.args.self.now in
    let at = c.args.at in
    let there = c.has_blocks.ensures.0 c.if-not-has_blocks.false in
    let one = one_is_free used at c.is_set.result c.is_set.ensures (omega (arith, there, c.if-count-eq1.true)) in
    subst (λ n. IsTrue (not c.is_set.result) ↔ AreFree used at n) (sym c.if-count-eq1.true) one

pub is_set-requires : goal.is_set-requires
is_set-requires g c = (let there = c.has_blocks.ensures.0 c.if-not-has_blocks.false in omega (arith, there, c.if-count-eq1.true))

pub returns : goal.returns
returns g c =
    let shows = turned c.any_in.result _ (subst (λ (xs : List Bool). (c.any_in.result ≡ false) ↔ AllBetween false xs c.args.at (c.args.at + c.args.count)) c.bits.ensures c.any_in.ensures) in
    (λ yes. (c.has_blocks.ensures.0 c.if-not-has_blocks.false, shows.0 yes), λ all. shows.1 all.1)
