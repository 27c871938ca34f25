-- Spans with the same numbers.
use Rattle.std.proofs.Common.{◌≡◌, pos, ◌-◌, ◌≤◌, ◌+ℤ◌, ◌≤ℤ◌}
use Rattle.std.specs.Int.{int_div_euclid}
use Rattle.std.proofs.Math.Bridge.{le_prop}
use mathlib.Core.HLevel.{is_prop→PathP}
use Rattle.bitvec_ptr.specs.Place.{place_at, greatest_isize}
use Rattle.bitvec_ptr.proofs.RangeLemmas.{le_z_same}
use Rattle.bitvec_span.specs.declared.ptr.span.BitSpan.{BitSpan}
use Rattle.bitvec_span.specs.Span.{region_max_bits}

-- two spans with the same word, head and length are the same
pub span_same : {R O : Type 0} {a b c d e f g : _} (p q : BitSpan R O a b c d e f g) → p.word ≡ q.word → p.head ≡ q.head → p.len ≡ q.len → p ≡ q
span_same {a = own} p q w h l = λ i. record {
  word = w i;
  head = h i;
  len = l i;
  of = record {};
  in_word = is_prop→PathP (λ j. h j ≤ own.BITS - 1) (λ j. le_prop) p.in_word q.in_word i;
  short = is_prop→PathP (λ j. l j ≤ region_max_bits) (λ j. le_prop) p.short q.short i;
  low = is_prop→PathP (λ j. int_div_euclid (place_at own.BITS (w j) (h j) +ℤ pos (l j)) (pos own.BITS) ≤ℤ greatest_isize) (λ j. le_z_same _ _) p.low q.low i;
}
