use Rattle.std.proofs.Common.{◌∙◌, ap}
use Rattle.std.proofs.lemmas.Nat.{pow_pos}
use Rattle.bitvec_mem.specs.Digit.{digit}
use Rattle.bitvec_mem.proofs.DigitLemmas.{digit-zero}
use Rattle.bitvec_order.proofs.MaskLemmas.{union_push}
use Rattle.bitvec_order.proofs.index.BitMaskSumBitSel.sum.Goals as goal

pub loop-sel-init : goal.loop-sel-init
loop-sel-init g c = record {
  union = record {
    below = rw c.ZERO-all.ensures (pow_pos g.R.BitRegister.BITS);
    digits = λ p h. ap (λ n. digit n p) c.ZERO-all.ensures ∙ digit-zero p;
  };
}

pub loop-sel-preserved : goal.loop-sel-preserved
loop-sel-preserved g c = record {
  union = union_push g.R.BitRegister.BITS c.loop-sel.all c.insert.new.self c.in-Some.sel c.loop-sel.yielded c.loop-sel.invariant.union c.insert.ensures.below c.insert.ensures.digits;
}
