use Rattle.std.proofs.Common.{◌≡◌, ◌+◌, ◌-◌, take, drop, ap, ◌∙◌, refl, arith, length-drop}
use Rattle.bitvec_stream.specs.Writer.{target_bits, bits_written, target_words}
use Rattle.bitvec_stream.proofs.ReadLemmas.{rest_moved}
use Rattle.bitvec_stream.proofs.WriteLemmas.{front_longer}
use Rattle.bitvec_stream.proofs.KnownLemmas.{known_none}
use Rattle.bitvec_stream.proofs.writer.BitWriter.skip.Goals as goal

pub returns-clause-skipped : goal.returns-clause-skipped
returns-clause-skipped g c =
    let it = c.args.self.now in
    let xs = target_bits it in
    let p = bits_written it in
    let to : c.position-position.result + c.args.count - 0 ≡ p + c.args.count = omega (arith, c.position-position.ensures.value) in
    (ap (λ m. take m xs) to ∙ front_longer xs p c.args.count, ap (λ m. drop m xs) to ∙ rest_moved xs p c.args.count, to, refl, refl)

pub invariant_of-self-clause-within : goal.invariant_of-self-clause-within
invariant_of-self-clause-within g c =
    let it = c.args.self.now in
    let at = c.position-position.ensures.value in
    let left = length-drop (bits_written it) (target_bits it) in
    let many = it.many (target_words it) in
    omega (arith, c.if-remaining-count.false, c.remaining.ensures, at, left, it.within, it.behind, many)

pub invariant_of-self-clause-shown : goal.invariant_of-self-clause-shown
invariant_of-self-clause-shown g c = known_none _ _ _ _ _ _ _

pub returns-clause-accepted : goal.returns-clause-accepted
returns-clause-accepted g c = (λ _. omega (arith, c.if-remaining-count.false, c.remaining.ensures), λ _. refl)
