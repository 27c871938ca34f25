use Rattle.std.proofs.Common.{◌≡◌, ℕ, ◌+◌, ◌/◌, ◌<◌, ◌≤◌, ◌^◌, ◌&&◌, false, nat_lt, map}
use Rattle.bitvec.specs.BitSpan.{span_of}
use Rattle.bitvec.specs.Digit.{digit}
use Rattle.bitvec.specs.Span.{element, list_of}
use Rattle.bitvec_slice.specs.Field.{digit_place}
use Rattle.bitvec_slice.proofs.field.load_words.Given as goal

-- the number has the digits of the words before word k
abbrev pub invariant-loop-k : goal.invariant-loop-k
invariant-loop-k g l = record {
  below : g.N.BitRegister.number l.number < 2 ^ g.N.BitRegister.BITS;
  digits : (j : ℕ) → j < l.span.len → digit (g.N.BitRegister.number l.number) (digit_place l.big g.R.BitRegister.BITS g.O.Sequential.RISES l.span.head l.span.len j)
      ≡ (nat_lt ((l.span.head + j) / g.R.BitRegister.BITS) l.k && element (list_of g.R.BitRegister.BITS g.O.BitAt.at_of (span_of l.span) (map g.R.BitRegister.number l.memory)) j);
  past : (q : ℕ) → l.span.len ≤ q → digit (g.N.BitRegister.number l.number) q ≡ false;
}
