use Rattle.std.proofs.Common.{◌≡◌, ℕ, ◌+◌, ◌-◌, ◌*◌, ◌/◌, ◌%◌, ◌<◌, sym, subst, arith}
use Rattle.bitvec.specs.Digit.{digit}
use Rattle.bitvec.specs.Span.{Span, element}
use Rattle.bitvec_slice.specs.BitSlice.{slice_bits}
use Rattle.bitvec_slice.specs.Words.{HasWord}
use Rattle.bitvec_stream.specs.Window.{IsKnown}
use Rattle.bitvec_stream.specs.Writer.{target_span, target_words, target_bits}
use Rattle.bitvec_stream.proofs.KnownLemmas.{known_read}
use Rattle.bitvec_stream.proofs.writer.BitWriter.know.Goals as goal

pub whole_word-requires : goal.whole_word-requires
whole_word-requires g c = subst (λ (s : Span). HasWord g.R.BitRegister.BITS s c.args.word) (sym c.slice.ensures.span) c.requires.whole

pub invariant_of-self-clause-within : goal.invariant_of-self-clause-within
invariant_of-self-clause-within g c = omega (arith, c.requires.place, c.requires.inner, c.requires.whole.1, c.bits_of.ensures.value, c.position-position.ensures.value)

pub invariant_of-self-clause-shown : goal.invariant_of-self-clause-shown
invariant_of-self-clause-shown g c =
    let it = c.args.self.now in
    let bits = g.R.BitRegister.BITS in
    let at = g.O.BitAt.at_of in
    let span = target_span it in
    let k = c.args.word in
    let passed = c.args.passed in
    let position = c.position-position.result in
    let word = g.R.BitRegister.number c.whole_word.result in
    let there = subst (λ (s : Span). (j : ℕ) → j < s.len → (s.head + j) / bits ≡ k → digit word (at ((s.head + j) % bits)) ≡ element (slice_bits c.slice.result) j) c.slice.ensures.span c.whole_word.ensures in
    let read = subst (λ xs. (j : ℕ) → j < span.len → (span.head + j) / bits ≡ k → digit word (at ((span.head + j) % bits)) ≡ element xs j) c.slice.ensures.bits there in
    let starts : span.head + position ≡ k * bits + passed = omega (arith, c.requires.place, c.position-position.ensures.value) in
    let long = it.many (target_words it) in
    subst (λ (width : ℕ). IsKnown bits at span.head (target_bits it) (position + (width - passed)) (width - passed) k c.to_u128-self.result) (sym c.bits_of.ensures.value)
    (subst (λ (w : ℕ). IsKnown bits at span.head (target_bits it) (position + (bits - passed)) (bits - passed) k w) (sym c.to_u128-self.ensures.number)
    (known_read bits at span.head (target_bits it) position passed k word (g.R.BitRegister.number c.turned.result) c.requires.falls c.requires.inner c.requires.whole.0 starts
    (omega (arith, starts, c.requires.inner, c.requires.whole.1, long)) (λ j h. read j (omega (arith, h, long))) c.turned.ensures.up c.turned.ensures.round))
