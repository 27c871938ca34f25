-- Spans that a view keeps by their numbers. `bits` is the width of a word.
use Rattle.std.specs.Prelude.{ℕ, pos, ◌<◌, ◌≤◌, ◌+ℤ◌, ◌≤ℤ◌}
use Rattle.std.specs.Int.{int_div_euclid}
use Rattle.bitvec.specs.Place.{place_at, greatest_isize}
use Rattle.bitvec.specs.Span.{Span, region_max_bits}
use Rattle.bits_lib.specs.declared.view.Interval.{Interval}

-- the span of an interval
abbrev pub interval_span : Interval → Span
interval_span interval = record { word = interval.word; head = interval.head; len = interval.len }

-- the span of no bits, from the first bit of the first word on
abbrev pub no_span : Span
no_span = record { word = pos 0; head = 0; len = 0 }

-- `BitSpan::new` accepts the numbers of the span
abbrev pub IsSpan : ℕ → Span → Type 0
IsSpan bits span = (span.head < bits) × (span.len ≤ region_max_bits) × (int_div_euclid (place_at bits span.word span.head +ℤ pos span.len) (pos bits) ≤ℤ greatest_isize)
