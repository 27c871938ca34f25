use Rattle.std.proofs.Common.{◌≡◌, ℕ, ◌+◌, ◌-◌, ◌<◌, subst, arith}
use Rattle.bitvec.specs.Span.{with_filled}
use Rattle.freemap.specs.Map.{in_use}
use Rattle.freemap.proofs.LevelLemmas.{filled_long}
use Rattle.freemap.proofs.SummaryLemmas.{said_last, said_inner, set_within, kept_beside}
use Rattle.freemap.proofs.leveled.refresh_rest.Goals as goal

pub returns-then-from-last-clause-summary : goal.returns-then-from-last-clause-summary
returns-then-from-last-clause-summary g c =
    let marks = g.S.Level.marks in
    let from = c.args.from in
    let last : ℕ = c.args.to - 1 in
    let said = c.say_word.ensures in
    let used = in_use c.args.map.now in
    let full = marks c.say_word.new.full in
    let new = marks c.set_marks.new.self in
    let order : from < last = omega (arith, c.if-from-last.true) in
    let rest = said_last used (marks c.args.full.now) full last said.many said.said said.beside from c.args.to (omega (arith, c.requires.some)) c.requires.rest in
    let is = subst (λ n. new ≡ with_filled full from n c.args.used) (let whole : from + (last - from) ≡ last = omega (arith, order) in whole) c.set_marks.ensures.marked in
    let inside = rest.inside in
    let many = filled_long full new from last c.args.used is (omega (arith, order)) inside in
    let set = set_within full new from last c.args.used is (omega (arith, order)) inside in
    let kept = kept_beside full new from last c.args.used is (omega (arith, order)) inside in
    said_inner used full new from last c.args.used rest many set kept (λ w later before. c.requires.inner w later (omega (arith, before)))
