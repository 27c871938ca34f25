use Rattle.std.proofs.Common.{◌≡◌, ℕ, ◌+◌, ◌/◌, ◌<◌, ◌&&◌, nat_lt, map, ap, ◌∙◌, refl, sym, subst, inl, inr, arith}
use Rattle.std.proofs.lemmas.Nat.{pow_pos}
use Rattle.std.proofs.lemmas.Bool.{cases_lt}
use Rattle.bitvec.specs.Digit.{digit}
use Rattle.bitvec.specs.BitSpan.{span_of}
use Rattle.bitvec.specs.Place.{words_met}
use Rattle.bitvec.specs.Span.{element, list_of}
use Rattle.bitvec.proofs.DigitLemmas.{digit-zero, digit_above}
use Rattle.bitvec.proofs.PartLemmas.{length-list_of}
use Rattle.bitvec_slice.specs.Field.{digit_place}
use Rattle.bitvec_slice.proofs.FieldLemmas.{digit_places, more_words, no_words, all_words}
use Rattle.bitvec_slice.proofs.field.load_words.Goals as goal

pub loop-k-init : goal.loop-k-init
loop-k-init g c =
    let width = g.R.BitRegister.BITS in
    let span = c.args.span in
    let xs = list_of width g.O.BitAt.at_of (span_of span) (map g.R.BitRegister.number c.args.memory.now) in
    let zero : g.N.BitRegister.number c.ZERO-number.result ≡ 0 = ap g.N.BitRegister.number c.ZERO-number.ensures ∙ g.met.N.BitRegister.zero_is_0 in
    let none = λ (q : ℕ). ap (λ n. digit n q) zero ∙ digit-zero q in
    record {
      below = omega (arith, zero, pow_pos g.N.BitRegister.BITS);
      digits = λ j h. none (digit_place c.args.big width g.O.Sequential.RISES span.head span.len j) ∙ no_words ((span.head + j) / width) (element xs j);
      past = λ q h. none q;
    }

pub loop-k-preserved : goal.loop-k-preserved
loop-k-preserved g c =
    let width = g.R.BitRegister.BITS in
    let span = c.args.span in
    let most = g.N.BitRegister.BITS in
    let eight = g.met.R.BitRegister.width_at_least_8 in
    let xs = list_of width g.O.BitAt.at_of (span_of span) (map g.R.BitRegister.number c.args.memory.now) in
    let small = c.requires.small in
    let law = digit_places width span.head span.len (omega (arith, eight)) (omega (arith, span.in_word, eight)) c.args.big g.O.Sequential.RISES in
    record {
      below = c.or-number.ensures.below;
      digits = λ j h.
          let place = digit_place c.args.big width g.O.Sequential.RISES span.head span.len j in
          more_words ((span.head + j) / width) c.loop-k.k (element xs j) _ _ _ (c.loop-k.invariant.digits j h) (c.load_digits.ensures.part.digits j h)
          (c.or-number.ensures.digits place (omega (arith, law.below j h, small)));
      past = λ q h. elim (cases_lt q most) [
        | inr above ↦ digit_above (g.N.BitRegister.number c.or-number.result) most q c.or-number.ensures.below above
        | inl below ↦ c.or-number.ensures.digits q below ∙ rw (c.loop-k.invariant.past q h, c.load_digits.ensures.part.past q h) refl
      ];
    }

pub returns : goal.returns
returns g c =
    let width = g.R.BitRegister.BITS in
    let rises = g.O.Sequential.RISES in
    let span = c.args.span in
    let most = g.N.BitRegister.BITS in
    let eight = g.met.R.BitRegister.width_at_least_8 in
    let xs = list_of width g.O.BitAt.at_of (span_of span) (map g.R.BitRegister.number c.args.memory.now) in
    let long = length-list_of width g.O.BitAt.at_of (span_of span) (map g.R.BitRegister.number c.args.memory.now) in
    let number = g.N.BitRegister.number c.loop-k.number in
    let all : c.loop-k.k ≡ words_met width span.head span.len = omega (arith, c.loop-k-test.false, c.loop-k.auto.k-end, c.elements-k-end.ensures.value) in
    all_words c.args.big rises width span.head xs number most (omega (arith, eight)) (omega (arith, span.in_word, eight)) c.loop-k.invariant.below
    (subst (λ (n : ℕ). (j : ℕ) → j < n → digit number (digit_place c.args.big width rises span.head n j) ≡ (nat_lt ((span.head + j) / width) (words_met width span.head n) && element xs j)) (sym long)
    (λ j h. c.loop-k.invariant.digits j h ∙ ap (λ n. nat_lt ((span.head + j) / width) n && element xs j) all))
    (λ q h. c.loop-k.invariant.past q (omega (arith, h, long)))
