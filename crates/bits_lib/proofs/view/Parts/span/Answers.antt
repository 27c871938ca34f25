use Rattle.std.proofs.Common.{rules, ◌≡◌, ◌<◌, length, arith, w64}
use Rattle.std.proofs.lemmas.Int.{ints}
use Rattle.bits_lib.proofs.IntervalLemmas.{valid_at}
use Rattle.bits_lib.proofs.view.Parts.span.Goals as goal
use mir.Val.{to_z, of_z}

pub new_unchecked-head-requires : goal.new_unchecked-head-requires
new_unchecked-head-requires g c =
    let parts = c.args.self.now in
    let inside : c.args.part < length parts.intervals = search rules in
    (valid_at g.R.BitRegister.BITS parts.intervals parts.spans c.args.part _ inside).0

pub unwrap-requires : goal.unwrap-requires
unwrap-requires g c =
    let parts = c.args.self.now in
    let inside : c.args.part < length parts.intervals = search rules in
    let valid = valid_at g.R.BitRegister.BITS parts.intervals parts.spans c.args.part _ inside in
    let same = c.new_unchecked-head.ensures in
    let passed : to_z w64 (of_z w64 c.word.result) ≡ c.word.result = omega (arith, ints) in
    let word = c.word.ensures in
    c.new.ensures.accepted.1 (rw (same, passed, word) (valid.1, valid.2))
