use Rattle.std.proofs.Common.{◌≡◌, ◌∙◌, ap, length, map, replicate, sym, arith}
use Rattle.std.proofs.lemmas.List.{take_all}
use Rattle.tests_span.specs.FilledDomain.{word_of_bit}
use Rattle.tests_span.proofs.FilledBitLemmas.{map-replicate}
use Rattle.tests_span.proofs.filled_domain.fill_words.Goals as goal
use Rattle.tests_span.proofs.filled_domain.fill_words.Goals.{then-bit, else-bit}

pub returns : goal.returns
returns g c =
    let number = g.R.BitRegister.number in
    let word : number c.if-bit.word ≡ word_of_bit g.R.BitRegister.BITS c.args.bit = elim c.if-bit.branch [
      | then-bit w ↦ rw w.if-bit.true (ap number (w.word-is ∙ w.ALL-word.ensures) ∙ g.met.R.BitRegister.all_is_greatest)
      | else-bit w ↦ rw w.if-bit.false (ap number (w.word-is ∙ w.ZERO-word.ensures) ∙ g.met.R.BitRegister.zero_is_0)
    ] in
    let long : c.loop-k.k ≡ length c.args.words.now = omega (arith, c.loop-k-test.false, c.loop-k.invariant.1, c.loop-k.auto.words) in
    ap (map number) (sym (take_all c.loop-k.k c.loop-k.words c.loop-k-test.false) ∙ c.loop-k.invariant.2)
    ∙ map-replicate number c.loop-k.k c.if-bit.word
    ∙ (λ i. replicate (long i) (word i))
