use Rattle.bitvec_order.specs.Masks.{HasDigits, is_in_some}
use Rattle.bitvec_order.proofs.index.BitMaskSumBitSel.sum.Given as goal

abbrev pub invariant-loop-sel : goal.invariant-loop-sel
invariant-loop-sel g l = record {
  union : HasDigits g.R.BitRegister.BITS l.all (is_in_some l.yielded);
}
