use Rattle.std.proofs.Common.{arith}
use Rattle.std.proofs.lemmas.Int.{ints}
use Rattle.bitvec_ptr.specs.BitPtr.{ptr_of}
use Rattle.bitvec_ptr.proofs.RangeLemmas.{count_known}
use Rattle.bitvec_ptr.proofs.ptr.single.BitPtr.range.Goals as goal

pub add-end-requires-clause-inside : goal.add-end-requires-clause-inside
add-end-requires-clause-inside g c = c.requires.inside

pub invariant_of-result : goal.invariant_of-result
invariant_of-result g c = record { ordered = omega (arith, ints, c.add-end.ensures); near = omega (arith, ints, c.add-end.ensures, c.requires.count) }

pub returns-clause-end : goal.returns-clause-end
returns-clause-end g c = c.add-end.ensures

pub returns-clause-count : goal.returns-clause-count
returns-clause-count g c = count_known g.R.BitRegister.BITS (record { start = ptr_of c.args.self; end = ptr_of c.add-end.result }) c.args.count (omega (arith, ints, c.add-end.ensures))
