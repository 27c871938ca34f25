use Rattle.std.proofs.Common.{ℕ, ◌-◌, map, sym, ap, ◌∙◌, arith}
use Rattle.bitvec.specs.BitSpan.{span_of}
use Rattle.bitvec.specs.Span.{Span, list_of}
use Rattle.bitvec_slice.specs.Numbers.{number_be}
use Rattle.bitvec_slice.proofs.SamePlaceLemmas.{list-same}
use Rattle.bitvec_slice.proofs.field.digits.load_falling.Goals as goal

pub returns : goal.returns
returns g c =
    let width = g.R.BitRegister.BITS in
    let mask = g.R.BitRegister.MASK in
    let eight = g.met.R.BitRegister.width_at_least_8 in
    let words = map g.R.BitRegister.number c.args.memory.now in
    c.load.ensures
    ∙ ap (λ (s : Span). number_be (list_of width (λ (i : ℕ). mask - i) s words)) c.places_of-places.ensures
    ∙ ap number_be (sym (list-same width g.O.BitAt.at_of (λ (i : ℕ). mask - i) (omega (arith, eight)) (λ i h. c.requires.order i h ∙ ap (λ n. n - i) (sym g.met.R.BitRegister.mask_is_greatest_index)) (span_of c.args.span) words))
