use Rattle.std.proofs.Common.{arith}
use Rattle.bitvec.specs.BitPtr.{ptr_of}
use Rattle.bitvec_call.proofs.PlainRangeLemmas.{pointer_index, pointer_in, range_in}
use Rattle.bitvec_call.proofs.range.pointer.Goals as goal

pub returns-clause-index : goal.returns-clause-index
returns-clause-index g c = pointer_index g.R.BitRegister.BITS c.args.place (ptr_of c.at.result) c.at.ensures

pub returns-clause-inside : goal.returns-clause-inside
returns-clause-inside g c words inside =
    pointer_in g.R.BitRegister.BITS words c.args.place (ptr_of c.at.result) (omega (arith, g.met.R.BitRegister.width_at_least_8)) c.at.ensures inside

pub returns-clause-range_inside : goal.returns-clause-range_inside
returns-clause-range_inside g c words count inside =
    range_in g.R.BitRegister.BITS words c.args.place count (ptr_of c.at.result) (omega (arith, g.met.R.BitRegister.width_at_least_8)) c.at.ensures inside
