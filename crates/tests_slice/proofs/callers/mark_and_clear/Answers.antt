use Rattle.std.proofs.Common.{List, Bool, false}
use Rattle.std.specs.Prelude.{slice_set}
use Rattle.tests_slice.proofs.EditLemmas.{edits-both}
use Rattle.tests_slice.proofs.callers.mark_and_clear.Goals as goal

pub returns : goal.returns
returns g c =
    let clear = λ (xs : List Bool). slice_set xs 0 false in
    edits-both c.args.bits.now c.set.new.self c.set-2.new.self
    _ clear c.set.ensures.bits c.set-2.ensures.bits
