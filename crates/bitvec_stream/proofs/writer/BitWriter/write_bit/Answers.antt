use Rattle.std.proofs.Common.{◌≡◌, ◌≤◌, ◌+◌, ◌-◌, [], ◌∷◌, length, refl, arith, length-drop}
use Rattle.std.specs.Prelude.{slice_set}
use Rattle.bitvec.proofs.BecomesLemmas.{becomes-same}
use Rattle.bitvec_slice.specs.Ranges.{with_range}
use Rattle.bitvec_stream.specs.Writer.{target_span, target_words, target_bits, bits_written}
use Rattle.bitvec_stream.proofs.WriteLemmas.{set_written}
use Rattle.bitvec_stream.proofs.WriterLemmas.{stretch_at}
use Rattle.bitvec_stream.proofs.KnownLemmas.{known_none}
use Rattle.bitvec_stream.proofs.writer.BitWriter.write_bit.Goals as goal

pub returns-clause-written : goal.returns-clause-written
returns-clause-written g c =
    let it = c.args.self.now in
    let xs = target_bits it in
    let at = c.position-position.result in
    let bit = c.args.bit in
    let to : at + 1 - 0 ≡ at + 1 = omega arith in
    let some : at + 1 ≤ length xs = omega (arith, c.if-len-position.false, c.len.ensures, it.many (target_words it)) in
    stretch_at it c.write.new.memory (bit ∷ []) (at + 1 - 0) at 1 c.position-position.ensures.value to refl some
    (becomes-same g.R.BitRegister.BITS g.O.BitAt.at_of (target_span it) (target_words it) _ (slice_set xs at bit) (with_range xs at (at + 1) (bit ∷ [])) (set_written xs at bit (omega (arith, some))) c.write.ensures)

pub invariant_of-self-clause-shown : goal.invariant_of-self-clause-shown
invariant_of-self-clause-shown g c = known_none _ _ _ _ _ _ _

pub invariant_of-self-2-clause-fits : goal.invariant_of-self-2-clause-fits
invariant_of-self-2-clause-fits g c =
    let it = c.args.self.now in
    (it.fits.0, omega (arith, it.fits.1, c.write.auto.memory))

pub invariant_of-self-2-clause-within : goal.invariant_of-self-2-clause-within
invariant_of-self-2-clause-within g c =
    let it = c.args.self.now in
    omega (arith, c.if-len-position.false, c.len.ensures)

pub invariant_of-self-2-clause-shown : goal.invariant_of-self-2-clause-shown
invariant_of-self-2-clause-shown g c = known_none _ _ _ _ _ _ _

pub returns-clause-accepted : goal.returns-clause-accepted
returns-clause-accepted g c =
    let it = c.args.self.now in
    let at = c.position-position.ensures.value in
    let left = length-drop (bits_written it) (target_bits it) in
    let many = it.many (target_words it) in
    (λ _. omega (arith, c.if-len-position.false, c.len.ensures, at, left, it.within, it.behind, many), λ _. refl)

pub returns-then-len-position-clause-accepted : goal.returns-then-len-position-clause-accepted
returns-then-len-position-clause-accepted g c =
    let it = c.args.self.now in
    let at = c.position-position.ensures.value in
    let left = length-drop (bits_written it) (target_bits it) in
    let many = it.many (target_words it) in
    (λ h. absurd (cc), λ h. absurd (omega (arith, h, c.if-len-position.true, c.len.ensures, at, left, it.within, it.behind, many)))
