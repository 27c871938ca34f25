use Rattle.std.proofs.Common.{◌≡◌, ◌+◌, ℤ, to_z-of_z, length, map, refl, sym, ap, subst, ◌∙◌, inr, arith, rules}
use Rattle.std.specs.Int.{w64}
use mir.Val.{to_z, of_z}
use Rattle.bitvec_slice.specs.Signed.{complement_of, FitsSignedDigits}
use Rattle.bitvec_stream.specs.Writer.{Writes}
use Rattle.bitvec_call.specs.RunStatus.{IsFirstFailed}
use Rattle.bitvec_call.specs.Stream.{bits_between, digits_by, written_conditions}
use Rattle.bitvec_call.proofs.StreamLemmas.{taken, refused}
use Rattle.bitvec_call.proofs.WriteLemmas.{length-left, length-digits_by, wrote, left_kept, digits_refused}
use Rattle.bitvec_call.proofs.write.write_signed_in.Goals as goal

pub returns-in-Ok : goal.returns-in-Ok
returns-in-Ok g c =
    let width = g.R.BitRegister.BITS in
    let memory = c.args.memory.now in
    let place = c.args.place.now in
    let writer = c.writer_between-writer in
    let same : to_z w64 (of_z w64 c.args.number) ≡ c.args.number = to_z-of_z {w = w64} {z = c.args.number} (search rules) in
    let xs = digits_by c.args.big c.args.count (complement_of c.args.count c.args.number) in
    let many = length-digits_by c.args.big c.args.count (complement_of c.args.count c.args.number) in
    let left = length-left width g.O.BitAt.at_of place c.args.end (map g.R.BitRegister.number memory) in
    let can = c.in-Ok.ensures.accepted.0 (search rules) in
    let room = ap length writer.ensures.room in
    let done = wrote writer.result c.put_signed.new.writer memory _ place c.args.end xs writer.ensures.memory (search rules) writer.ensures.span writer.ensures.position (subst (λ (z : ℤ). Writes writer.result c.put_signed.new.writer (digits_by c.args.big c.args.count (complement_of c.args.count z))) same c.in-Ok.ensures.written) (omega (arith, g.met.R.BitRegister.width_at_least_8)) (omega (arith, many, can.0, room, left)) in
    taken _ _ _ _ _ _ (inr (omega (arith, c.if-count-gt-MAX_DIGITS.false), inr (omega (arith, can.0, room), inr ((subst (λ (z : ℤ). FitsSignedDigits c.args.count z) same can.1), refl)))) done (ap (λ n. place + n) (sym many))

pub returns-in-Err : goal.returns-in-Err
returns-in-Err g c =
    let writer = c.writer_between-writer in
    let same : to_z w64 (of_z w64 c.args.number) ≡ c.args.number = to_z-of_z {w = w64} {z = c.args.number} (search rules) in
    let left = bits_between g.R.BitRegister.BITS g.O.BitAt.at_of c.args.place.now c.args.end (map g.R.BitRegister.number c.args.memory.now) in
    let first = digits_refused c.args.count _ (length left) (FitsSignedDigits c.args.count c.args.number) c.in-Err.error (omega (arith, c.if-count-gt-MAX_DIGITS.false)) (ap length writer.ensures.room)
    (λ can. absurd (search (rules, c.in-Err.ensures.accepted.1 (can.0, subst (λ (z : ℤ). FitsSignedDigits c.args.count z) (sym same) can.1)))) (λ is. c.in-Err.ensures.no_room.0 (search (rules, is))) (λ less. search (rules, c.in-Err.ensures.no_room.1 less)) in
    let status = c.status_of.ensures in
    refused _ _ _ _ _ _ _ (λ e. first.0 (sym status ∙ e)) (subst (λ n. IsFirstFailed (written_conditions c.args.count (FitsSignedDigits c.args.count c.args.number) (length left)) n) (sym status) first.1)
    (left_kept writer.result c.put_signed.new.writer g.R.BitRegister.number c.args.memory.now _ writer.ensures.memory (search rules) c.in-Err.ensures.kept) refl

pub overflow_add-place : goal.overflow_add-place
overflow_add-place g c =
    let left = length-left g.R.BitRegister.BITS g.O.BitAt.at_of c.args.place.now c.args.end (map g.R.BitRegister.number c.args.memory.now) in
    let can = c.in-Ok.ensures.accepted.0 (search rules) in
    omega (arith, can.0, ap length c.writer_between-writer.ensures.room, left, c.requires.rises, c.ranges.end.fits)
