use Rattle.bitvec_span.specs.BitSpan.{span_of}
use Rattle.bitvec.specs.Run.{span_in}
use Rattle.bitvec.proofs.OrderLemmas.{IsEndOf}
use Rattle.bitvec.proofs.RisingLemmas.{AreApartBelow, AllBelow}
use Rattle.bitvec.proofs.run.near_apart.Given as goal

-- the spans so far are apart, none of them has a bit at `upto` or behind, and one ends there
abbrev pub invariant-loop-i : goal.invariant-loop-i
invariant-loop-i g l = record {
  apart : AreApartBelow g.R.BitRegister.BITS (λ n. span_in span_of l.spans n) l.order l.i;
  below : AllBelow g.R.BitRegister.BITS (λ n. span_in span_of l.spans n) l.order l.i l.upto;
  end : IsEndOf g.R.BitRegister.BITS (λ n. span_in span_of l.spans n) l.order l.i l.upto;
}
