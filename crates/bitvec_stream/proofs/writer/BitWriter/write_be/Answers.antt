use Rattle.std.proofs.Common.{◌≡◌, ◌-◌, ◌≤◌, length, arith, rules, refl}
use Rattle.std.proofs.lemmas.List.{length-drop}
use Rattle.bitvec_stream.specs.Numbers.{digits_be}
use Rattle.bitvec_stream.specs.Writer.{room, target_bits, target_words}
use Rattle.bitvec_slice.proofs.DigitListLemmas.{length-digits_be}
use Rattle.bitvec_stream.proofs.RowLemmas.{room_after}
use Rattle.bitvec_stream.proofs.writer.BitWriter.write_be.Goals as goal

pub returns-then-is_across-clause-left : goal.returns-then-is_across-clause-left
returns-then-is_across-clause-left g c =
    let n = g.N.BitRegister.number c.args.value in
    let it = c.args.self.now in
    let all = it.many (target_words it) in
    let across = c.is_across.ensures (search (rules, c.if-is_across.true)) in
    let fits : c.args.count ≤ length (room it) = omega (arith, length-drop (it.end - it.kept) (target_bits it), all, across, it.within, it.behind) in
    room_after (room c.args.self.now) (room c.put_across.new.self) (digits_be c.args.count n) c.args.count fits (length-digits_be c.args.count n) c.put_across.ensures.1

pub returns-then-count-remaining-clause-left : goal.returns-then-count-remaining-clause-left
returns-then-count-remaining-clause-left g c =
    let n = g.N.BitRegister.number c.args.value in
    let fits : c.args.count ≤ length (room c.args.self.now) = omega (arith, c.if-count-remaining.true, c.remaining.ensures) in
    room_after (room c.args.self.now) (room c.put_past.new.self) (digits_be c.args.count n) c.args.count fits (length-digits_be c.args.count n) c.put_past.ensures.1

pub returns-then-count-self-clause-accepted : goal.returns-then-count-self-clause-accepted
returns-then-count-self-clause-accepted g c =
    let it = c.args.self.now in
    let left = length-drop (it.end - it.kept) (target_bits it) in
    let many = it.many (target_words it) in
    let fits : c.args.count ≤ length (room it) = omega (arith, left, many, c.if-count-self.true, it.within, it.behind) in
    (λ _. (fits, c.has_digits.ensures.0 (search (rules, c.if-not-has_digits.false))), λ _. refl)

pub returns-then-count-self-clause-no_room : goal.returns-then-count-self-clause-no_room
returns-then-count-self-clause-no_room g c =
    let it = c.args.self.now in
    let left = length-drop (it.end - it.kept) (target_bits it) in
    let many = it.many (target_words it) in
    (λ h. absurd (cc), λ h. absurd (omega (arith, h, left, many, c.if-count-self.true, it.within, it.behind)))

pub returns-then-is_across-clause-accepted : goal.returns-then-is_across-clause-accepted
returns-then-is_across-clause-accepted g c =
    let it = c.args.self.now in
    let left = length-drop (it.end - it.kept) (target_bits it) in
    let many = it.many (target_words it) in
    let across = c.is_across.ensures (search (rules, c.if-is_across.true)) in
    let fits : c.args.count ≤ length (room it) = omega (arith, left, many, across, it.within, it.behind) in
    (λ _. (fits, c.has_digits.ensures.0 (search (rules, c.if-not-has_digits.false))), λ _. refl)

pub returns-then-is_across-clause-no_room : goal.returns-then-is_across-clause-no_room
returns-then-is_across-clause-no_room g c =
    let it = c.args.self.now in
    let left = length-drop (it.end - it.kept) (target_bits it) in
    let many = it.many (target_words it) in
    let across = c.is_across.ensures (search (rules, c.if-is_across.true)) in
    (λ h. absurd (cc), λ h. absurd (omega (arith, h, left, many, across, it.within, it.behind)))

pub returns-then-count-self-clause-left : goal.returns-then-count-self-clause-left
returns-then-count-self-clause-left g c =
    let n = g.N.BitRegister.number c.args.value in
    let it = c.args.self.now in
    let left = length-drop (it.end - it.kept) (target_bits it) in
    let many = it.many (target_words it) in
    let fits : c.args.count ≤ length (room it) = omega (arith, left, many, c.if-count-self.true, it.within, it.behind) in
    room_after (room it) (room c.put_kept.new.self) (digits_be c.args.count n) c.args.count fits (length-digits_be c.args.count n) c.put_kept.ensures.writes.1
