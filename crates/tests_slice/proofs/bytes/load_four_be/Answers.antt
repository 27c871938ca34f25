use Rattle.std.proofs.Common.{rules, ◌-◌, ap, ◌∙◌, map}
use Rattle.std.proofs.lemmas.List.{map-id}
use Rattle.bitvec.specs.Memory.{memory_bits}
use Rattle.bitvec.specs.Span.{Span}
use Rattle.bitvec_slice.specs.BitSlice.{slice_span, slice_bits}
use Rattle.bitvec_slice.proofs.ByteNumbers.{loaded_high_bytes}
use Rattle.tests_slice.proofs.bytes.load_four_be.Goals as goal

pub returns-in-Ok : goal.returns-in-Ok
returns-in-Ok c =
    loaded_high_bytes 3 c.args.bytes (search rules) (search rules) c.load_be.result (slice_span c.in-Ok.bits).head (slice_bits c.in-Ok.bits) (ap (λ (s : Span). s.head) c.in-Ok.ensures.span) c.load_be.ensures.number (c.in-Ok.ensures.bits ∙ ap (memory_bits 8 (λ i. 7 - i)) (map-id c.args.bytes))
