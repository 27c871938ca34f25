use Rattle.std.proofs.Common.{◌≡◌, ◌<◌, ◌^◌, map, ap, ◌∙◌, subst, arith, rules}
use Rattle.bitvec.specs.Digit.{digit}
use Rattle.bitvec.specs.BitSpan.{span_of}
use Rattle.bitvec.specs.Span.{element, list_of}
use Rattle.bitvec_slice.specs.Field.{part_place}
use Rattle.bitvec_slice.proofs.FieldLemmas.{IsMovedUp, part_placed, small_from_digits, some_unless}
use Rattle.bitvec_slice.proofs.field.load_digits.Goals as goal

pub unwrap-requires : goal.unwrap-requires
unwrap-requires g c =
    let width = g.R.BitRegister.BITS in
    let most = g.N.BitRegister.BITS in
    let small : g.R.BitRegister.number c.load_part.result < 2 ^ most =
    small_from_digits (g.R.BitRegister.number c.load_part.result) width most c.to_u128-part.ensures.below (λ p h. c.load_part.ensures.past p (omega (arith, c.requires.small, h))) in
    some_unless c.from_u128.result (λ none. absurd (omega (arith, small, c.to_u128-part.ensures.number, c.from_u128.ensures.refused.0 none)))

pub returns : goal.returns
returns g c =
    let width = g.R.BitRegister.BITS in
    let most = g.N.BitRegister.BITS in
    let span = c.args.span in
    let eight = g.met.R.BitRegister.width_at_least_8 in
    let bit = element (list_of width g.O.BitAt.at_of (span_of span) (map g.R.BitRegister.number c.args.memory.now)) in
    let v = g.R.BitRegister.number c.load_part.result in
    let r = g.N.BitRegister.number c.shl.result in
    let is : g.N.BitRegister.number c.unwrap.result ≡ g.R.BitRegister.number c.load_part.result = search rules in
    let up : IsMovedUp c.place.result most v r = record { below = c.shl.ensures.below; low = c.shl.ensures.low; moved = λ p h. c.shl.ensures.moved p h ∙ ap (λ n. digit n p) is } in
    let placed =
    part_placed width span.head span.len c.args.k bit (omega (arith, eight)) (omega (arith, span.in_word, eight)) c.requires.met c.args.big g.O.Sequential.RISES most v r c.requires.small c.load_part.ensures
    (subst (λ n. IsMovedUp n most v r) {y = part_place c.args.big width span.head span.len c.args.k} c.place.ensures.value up) in
    record { part = placed; below = c.shl.ensures.below }
