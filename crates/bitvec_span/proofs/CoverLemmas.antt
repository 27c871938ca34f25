-- The places of a span that begins in a memory.
use Rattle.std.proofs.Common.{ℕ, ◌+◌, ◌*◌, ◌<◌, arith}
use Rattle.std.specs.Prelude.{ℤ, pos, negsuc, ◌+ℤ◌, ◌*ℤ◌, ◌≤ℤ◌, ◌<ℤ◌, nat_abs}
use Rattle.std.proofs.lemmas.Int.{ints}
use Rattle.bitvec_span.specs.Span.{Span, Covers, Fits}

pub covers_from : (word : ℤ) (bits head len j : ℕ) → pos 0 ≤ℤ word → j < len → (((word *ℤ pos bits) +ℤ pos head) ≤ℤ pos (nat_abs word * bits + head + j)) × (pos (nat_abs word * bits + head + j) <ℤ (((word *ℤ pos bits) +ℤ pos head) +ℤ pos len))
covers_from (pos w) bits head len j from h = (omega (arith, ints), omega (arith, ints))
covers_from (negsuc w) bits head len j from h = absurd (omega (arith, ints))

-- the j-th of them
pub covers-own : (bits : ℕ) (span : Span) (words j : ℕ) → Fits bits span words → j < span.len → Covers bits span (pos (nat_abs span.word * bits + span.head + j))
covers-own bits span words j fits h = covers_from span.word bits span.head span.len j fits.0 h
