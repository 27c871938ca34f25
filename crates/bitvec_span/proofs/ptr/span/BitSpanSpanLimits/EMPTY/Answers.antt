use Rattle.std.proofs.Common.{refl}
use Rattle.bitvec_span.proofs.SameSpans.{span_same}
use Rattle.bitvec_span.proofs.ptr.span.BitSpanSpanLimits.EMPTY.Goals as goal

pub returns : goal.returns
returns g c = span_same _ _ refl refl refl
