use Rattle.std.proofs.Common.{[], ◌∷◌, refl}
use Rattle.freemap.specs.History.{HandsOut, TakesBack}
use Rattle.freemap.specs.Map.{in_use}
use Rattle.freemap.proofs.HistoryLemmas.{histories_keep_owners, still_in_use}
use Rattle.tests_freemap.proofs.callers.two_and_back.Goals as goal

pub free-requires : goal.free-requires
free-requires g c =
    let one = in_use c.alloc_run.new.self in
    let two = in_use c.alloc_run-2.new.self in
    let second = c.in_ok-then.ensures in
    still_in_use one two c.in_ok-at.at c.args.first c.in_ok-then.then c.args.second second.taken.used second.answer.0.0 second.taken.many c.in_ok-at.ensures.handed

-- the three calls are a history
pub returns : goal.returns
returns g c = λ live owns.
    let at = c.in_ok-at.at in
    let then = c.in_ok-then.then in
    let one = in_use c.alloc_run.new.self in
    let two = in_use c.alloc_run-2.new.self in
    let now = in_use c.free.new.self in
    let first = c.in_ok-at.ensures in
    let second = c.in_ok-then.ensures in
    let in_it = still_in_use one two at c.args.first then c.args.second second.taken.used second.answer.0.0 second.taken.many first.handed in
    let calls = HandsOut at c.args.first ∷ HandsOut then c.args.second ∷ TakesBack at c.args.first ∷ [] in
    histories_keep_owners calls (in_use c.args.map.now) now live ((then, c.args.second) ∷ live) owns (
      one,
      (at, c.args.first) ∷ live,
      (first.answer.0, first.taken.used, refl),
      (two, (then, c.args.second) ∷ (at, c.args.first) ∷ live, (second.answer.0, second.taken.used, refl), (now, (then, c.args.second) ∷ live, (in_it, c.free.ensures.freed.used, ((then, c.args.second) ∷ [], live, refl, refl)), (refl, refl))),
    )
