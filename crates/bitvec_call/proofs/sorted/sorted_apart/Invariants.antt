use Rattle.bitvec.specs.Run.{span_in}
use Rattle.bitvec.proofs.OrderLemmas.{IsEndOf}
use Rattle.bitvec.proofs.RisingLemmas.{AreApartBelow, AllBelow}
use Rattle.bitvec_call.specs.Plain.{plain_span}
use Rattle.bitvec_call.proofs.sorted.sorted_apart.Given as goal

-- the spans so far are apart, none of them has a bit at `upto` or behind, and one ends there
abbrev pub invariant-loop-i : goal.invariant-loop-i
invariant-loop-i g l = record {
  apart : AreApartBelow g.R.BitRegister.BITS (λ n. span_in (plain_span g.R.BitRegister.BITS) l.spans n) l.room l.i;
  below : AllBelow g.R.BitRegister.BITS (λ n. span_in (plain_span g.R.BitRegister.BITS) l.spans n) l.room l.i l.upto;
  end : IsEndOf g.R.BitRegister.BITS (λ n. span_in (plain_span g.R.BitRegister.BITS) l.spans n) l.room l.i l.upto;
}
