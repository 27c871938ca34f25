use Rattle.std.proofs.Common.{ℕ, ◌<◌, get_or}
use Rattle.bitvec_span.specs.BitSpan.{span_of}
use Rattle.bitvec_span.specs.Span.{Fits}
use Rattle.bitvec.proofs.RisingLemmas.{AreApartBelow, AllBelow}
use Rattle.bitvec.proofs.run.first_out_of_order.Given as goal

-- the spans so far fit and are apart, and none of them has a bit at `upto` or behind
abbrev pub invariant-loop-i : goal.invariant-loop-i
invariant-loop-i g l = record {
  fit : (a : ℕ) (d : _) → a < l.i → Fits g.R.BitRegister.BITS (span_of (get_or l.spans a d)) l.words;
  apart : AreApartBelow g.R.BitRegister.BITS span_of l.spans l.i;
  below : AllBelow g.R.BitRegister.BITS span_of l.spans l.i l.upto;
}
