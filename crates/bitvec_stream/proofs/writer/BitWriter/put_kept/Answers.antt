use Rattle.std.proofs.Common.{◌≡◌, ℕ, ◌≤◌, ◌<◌, ◌+◌, ◌-◌, ◌∙◌, length, map, refl, sym, subst, arith}
use Rattle.bitvec.proofs.BecomesLemmas.{becomes-same}
use Rattle.bitvec.specs.Digit.{digit}
use Rattle.bitvec.specs.Span.{list_of}
use Rattle.bitvec_slice.proofs.DigitListLemmas.{length-digits_be}
use Rattle.bitvec_stream.specs.Numbers.{digits_be}
use Rattle.bitvec_stream.specs.Window.{IsKnown}
use Rattle.bitvec_stream.specs.Writer.{target_span, target_words, target_bits}
use Rattle.bitvec_stream.proofs.KnownLemmas.{put_digits, put_known}
use Rattle.bitvec_stream.proofs.WriterLemmas.{stretch_at}
use Rattle.bitvec_stream.proofs.writer.BitWriter.put_kept.Goals as goal

pub invariant_of-self-2-clause-shown : goal.invariant_of-self-2-clause-shown
invariant_of-self-2-clause-shown g c =
    let it = c.args.self.now in
    let bits = g.R.BitRegister.BITS in
    let at = g.O.BitAt.at_of in
    let number = g.R.BitRegister.number in
    let span = target_span it in
    let n = c.args.count in
    let next = number c.pushed-window.result in
    let old : (q : ℕ) → n + q < bits → digit next (n + q) ≡ digit it.window q = λ q h. c.pushed-window.ensures.old q h ∙ c.low_digits-known.ensures.digits q (omega (arith, h)) in
    let ends : it.end - it.kept + it.kept ≡ it.end = omega (arith, it.behind) in
    subst (λ (w : ℕ). IsKnown bits at span.head (list_of bits at span (map number c.put_word.new.memory)) it.end (it.kept - n) it.word w) (sym c.to_u128-self.ensures.number)
    (put_known bits at span.head (target_bits it) (it.end - it.kept) it.end it.kept it.word it.window (g.N.BitRegister.number c.args.digits) (number c.turned.result) next n
    c.requires.some c.requires.kept ends (omega (arith, it.within, it.many (target_words it))) it.shown c.pushed-window.ensures.new old c.turned.ensures.up c.turned.ensures.round _ (it.kept - n) c.put_word.ensures.list refl)

pub returns-clause-writes : goal.returns-clause-writes
returns-clause-writes g c =
    let it = c.args.self.now in
    let bits = g.R.BitRegister.BITS in
    let at = g.O.BitAt.at_of in
    let number = g.R.BitRegister.number in
    let xs = target_bits it in
    let value = g.N.BitRegister.number c.args.digits in
    let n = c.args.count in
    let p = it.end - it.kept in
    let next = number c.pushed-window.result in
    let old : (q : ℕ) → n + q < bits → digit next (n + q) ≡ digit it.window q = λ q h. c.pushed-window.ensures.old q h ∙ c.low_digits-known.ensures.digits q (omega (arith, h)) in
    let ends : it.end - it.kept + it.kept ≡ it.end = omega (arith, it.behind) in
    let inside : it.end ≤ length xs = omega (arith, it.within, it.many (target_words it)) in
    let same = put_digits bits at (target_span it).head xs p it.end it.kept it.word it.window value (number c.turned.result) next n
    c.requires.some c.requires.kept ends inside it.shown c.pushed-window.ensures.new old c.turned.ensures.up c.turned.ensures.round in
    let to : it.end - (it.kept - n) ≡ p + n = omega (arith, it.behind, c.requires.kept) in
    let some : p + n ≤ length xs = omega (arith, inside, it.behind, c.requires.kept) in
    stretch_at it c.put_word.new.memory (digits_be n value) (it.end - (it.kept - n)) p n refl to (length-digits_be n value) some
    (becomes-same bits at (target_span it) (target_words it) _ _ _ same c.put_word.ensures)
