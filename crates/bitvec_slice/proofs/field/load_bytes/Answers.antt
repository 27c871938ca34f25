use Rattle.std.proofs.Common.{◌≡◌, ◌≤◌, ◌^◌, ◌&&◌, nat_lt, map, ap, ◌∙◌, arith, rules}
use Rattle.std.proofs.Math.Pow.{pow_mono}
use Rattle.bitvec.specs.BitSpan.{span_of}
use Rattle.bitvec.specs.Digit.{digit}
use Rattle.bitvec.specs.Span.{list_of}
use Rattle.bitvec.proofs.PartLemmas.{length-list_of}
use Rattle.bitvec_slice.proofs.FieldLemmas.{some_unless}
use Rattle.bitvec_slice.proofs.FieldJoinLemmas.{near_number}
use Rattle.bitvec_slice.proofs.field.load_bytes.Goals as goal

pub unwrap-requires : goal.unwrap-requires
unwrap-requires g c =
    let span = c.args.span in
    let bits = g.R.BitRegister.BITS in
    let most = g.N.BitRegister.BITS in
    let eight = g.met.R.BitRegister.width_at_least_8 in
    let words = map g.R.BitRegister.number c.args.memory.now in
    let joined = c.load_four.result in
    let is = near_number g.O.Sequential.RISES bits 32 span.head span.len (list_of bits g.O.BitAt.at_of (span_of span) words) joined c.and-digits.result
    (omega (arith, eight)) (omega (arith, span.in_word, eight)) (length-list_of bits g.O.BitAt.at_of (span_of span) words) (omega (arith, c.requires.few)) c.and-digits.ensures.below
    (λ p h. c.and-digits.ensures.digits p h ∙ ap (λ b. b && digit joined p) (c.low_ones.ensures.digits p h ∙ ap (nat_lt p) c.len.ensures)) c.load_four.ensures in
    let more : 2 ^ span.len ≤ 2 ^ most = pow_mono c.requires.small in
    some_unless c.from_u128.result (λ none. absurd (omega (arith, is.0, more, c.to_u128.ensures.number, c.from_u128.ensures.refused.0 none)))

pub returns : goal.returns
returns g c =
    let span = c.args.span in
    let bits = g.R.BitRegister.BITS in
    let eight = g.met.R.BitRegister.width_at_least_8 in
    let words = map g.R.BitRegister.number c.args.memory.now in
    let joined = c.load_four.result in
    let same : g.N.BitRegister.number c.unwrap.result ≡ c.and-digits.result = search rules in
    same
    ∙ (near_number g.O.Sequential.RISES bits 32 span.head span.len (list_of bits g.O.BitAt.at_of (span_of span) words) joined c.and-digits.result
    (omega (arith, eight)) (omega (arith, span.in_word, eight)) (length-list_of bits g.O.BitAt.at_of (span_of span) words) (omega (arith, c.requires.few)) c.and-digits.ensures.below
    (λ p h. c.and-digits.ensures.digits p h ∙ ap (λ b. b && digit joined p) (c.low_ones.ensures.digits p h ∙ ap (nat_lt p) c.len.ensures)) c.load_four.ensures).1
