use Rattle.std.proofs.Common.{ℕ, map, sym, ap, ◌∙◌, arith}
use Rattle.bitvec.specs.BitSpan.{span_of}
use Rattle.bitvec.specs.Span.{Span, list_of}
use Rattle.bitvec_slice.specs.Numbers.{number_le}
use Rattle.bitvec_slice.proofs.SamePlaceLemmas.{list-same}
use Rattle.bitvec_slice.proofs.field.digits.load_rising.Goals as goal

pub returns : goal.returns
returns g c =
    let width = g.R.BitRegister.BITS in
    let eight = g.met.R.BitRegister.width_at_least_8 in
    let words = map g.R.BitRegister.number c.args.memory.now in
    c.load.ensures
    ∙ ap (λ (s : Span). number_le (list_of width (λ (i : ℕ). i) s words)) c.places_of-places.ensures
    ∙ ap number_le (sym (list-same width g.O.BitAt.at_of (λ (i : ℕ). i) (omega (arith, eight)) c.requires.order (span_of c.args.span) words))
