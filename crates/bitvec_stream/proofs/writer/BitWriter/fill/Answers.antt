use Rattle.std.proofs.Common.{◌≡◌, ◌≤◌, ◌+◌, ◌-◌, length, arith, length-drop, replicate}
use Rattle.std.proofs.lemmas.List.{length-replicate}
use Rattle.bitvec_stream.specs.Writer.{target_words, target_bits, bits_written}
use Rattle.bitvec_stream.proofs.WriterLemmas.{stretch_at}
use Rattle.bitvec_stream.proofs.KnownLemmas.{known_none}
use Rattle.bitvec_stream.proofs.writer.BitWriter.fill.Goals as goal

pub returns : goal.returns
returns g c =
    let it = c.args.self.now in
    let at = c.position-position.result in
    let n = c.args.count in
    let from = c.position-position.ensures.value in
    let to : at + n - 0 ≡ at + n = omega arith in
    let some : at + n ≤ length (target_bits it) = omega (arith, from, c.requires, length-drop (bits_written it) (target_bits it), it.within, it.behind, it.many (target_words it)) in
    stretch_at it c.fill_bits.new.memory (replicate n c.args.bit) (at + n - 0) at n from to (length-replicate n c.args.bit) some c.fill_bits.ensures

pub fill_bits-requires-clause-within : goal.fill_bits-requires-clause-within
fill_bits-requires-clause-within g c =
    let it = c.args.self.now in
    omega (arith, c.position-position.ensures.value, c.requires, length-drop (bits_written it) (target_bits it), it.within, it.behind, it.many (target_words it))

pub invariant_of-self-clause-shown : goal.invariant_of-self-clause-shown
invariant_of-self-clause-shown g c = known_none _ _ _ _ _ _ _

pub invariant_of-self-2-clause-fits : goal.invariant_of-self-2-clause-fits
invariant_of-self-2-clause-fits g c =
    let it = c.args.self.now in
    (it.fits.0, omega (arith, it.fits.1, c.fill_bits.auto.memory))

pub invariant_of-self-2-clause-within : goal.invariant_of-self-2-clause-within
invariant_of-self-2-clause-within g c =
    let it = c.args.self.now in
    let at = c.position-position.ensures.value in
    let left = length-drop (bits_written it) (target_bits it) in
    let many = it.many (target_words it) in
    omega (arith, at, c.requires, left, it.within, it.behind, many)

pub invariant_of-self-2-clause-shown : goal.invariant_of-self-2-clause-shown
invariant_of-self-2-clause-shown g c = known_none _ _ _ _ _ _ _
