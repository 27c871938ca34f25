-- What the shape of a span's domain is.
use Rattle.std.specs.Prelude.{ℕ, not}
use Rattle.bitvec_ptr.specs.Place.{words_met, tail_of}
use Rattle.bitvec_span.specs.declared.domain.shape.Shape.{Shape}
use Rattle.bitvec_span.specs.Span.{Span}
use Rattle.bitvec_span.specs.Loans.{is_inside, has_head, has_tail, words_before, body_words}

-- the words and the parts of a span's domain in a memory, and where they lie
abbrev pub shape_of : ℕ → Span → Shape
shape_of bits span = record {
  elements = words_met bits span.head span.len;
  tail = tail_of bits span.head span.len;
  has_head = has_head span;
  has_body = not (is_inside bits span);
  has_tail = has_tail bits span;
  words_before = words_before span;
  body_words = body_words bits span;
}
