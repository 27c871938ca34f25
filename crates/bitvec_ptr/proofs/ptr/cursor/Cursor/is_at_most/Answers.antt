use Rattle.std.proofs.Common.{◌<◌, arith}
use borrow.Author.Tests.{ltb-true, ltb-false}
use Rattle.bitvec_ptr.proofs.CopyLemmas.{place_order, place_before}
use Rattle.bitvec_ptr.proofs.ptr.cursor.Cursor.is_at_most.Goals as goal

pub returns-clause-yes : goal.returns-clause-yes
returns-clause-yes g c = λ t.
    let inside : c.args.self.bit < g.R.BitRegister.BITS = omega (arith, g.met.R.BitRegister.width_at_least_8, c.args.self.in_word) in
    place_order g.R.BitRegister.BITS c.args.self.word c.args.self.bit c.args.other.word c.args.other.bit inside (omega (arith, ltb-true))

pub returns-clause-no : goal.returns-clause-no
returns-clause-no g c = λ t.
    let inside : c.args.other.bit < g.R.BitRegister.BITS = omega (arith, g.met.R.BitRegister.width_at_least_8, c.args.other.in_word) in
    place_before g.R.BitRegister.BITS c.args.other.word c.args.other.bit c.args.self.word c.args.self.bit inside (omega (arith, ltb-false))
