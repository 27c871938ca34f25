use Rattle.std.proofs.Common.{ℕ, length, take, refl, ap, subst, ◌<◌, ◌^◌, ◌∙◌, [], map, FitsSigned, rules}
use Rattle.std.specs.Int.{w16}
use Rattle.bitvec.specs.BitSpan.{span_of}
use Rattle.bitvec.proofs.PartLemmas.{length-list_of}
use Rattle.bitvec_stream.specs.Reader.{unread}
use Rattle.bitvec_stream.specs.Writer.{target_bits, written, room}
use Rattle.tests_stream.specs.Header.{header_items, CanBePut}
use Rattle.tests_stream.proofs.HeaderLemmas.{header_back, header_there, none_true, fits_digits}
use Rattle.tests_stream.proofs.header.passed.Goals as goal

pub returns-in-Ok-read_header-clause-accepted : goal.returns-in-Ok-read_header-clause-accepted
returns-in-Ok-read_header-clause-accepted g c =
    let long = ap length c.over_unchecked-writer.ensures.room ∙ length-list_of g.R.BitRegister.BITS g.O.BitAt.at_of (span_of c.args.span) (map g.R.BitRegister.number c.args.memory.now) in
    (λ some. (c.fits.ensures.0 c.if-not-fits.false, subst (λ n. CanBePut n (header_items c.args.header)) long (c.in-Ok.ensures.accepted.0 refl)), λ h. refl)

pub returns-in-Ok-read_header-clause-value : goal.returns-in-Ok-read_header-clause-value
returns-in-Ok-read_header-clause-value g c =
    let front = written c.over_unchecked-writer.result in
    let none = ap (λ (n : ℕ). take n (target_bits c.over_unchecked-writer.result)) c.over_unchecked-writer.ensures.position in
    header_back c.args.header c.in-Ok-read_header.back front (written c.write_header.new.writer) (unread c.new-reader.result) _ none c.in-Ok.ensures.written (c.new-reader.ensures.rest ∙ c.written.ensures.bits) (c.in-Ok.ensures.accepted.0 refl).0 c.in-Ok-read_header.ensures

pub returns-in-Err-read_header-clause-accepted : goal.returns-in-Err-read_header-clause-accepted
returns-in-Err-read_header-clause-accepted g c =
    let front = written c.over_unchecked-writer.result in
    let none = ap (λ (n : ℕ). take n (target_bits c.over_unchecked-writer.result)) c.over_unchecked-writer.ensures.position in
    let there = header_there c.args.header front (written c.write_header.new.writer) (unread c.new-reader.result) none c.in-Ok.ensures.written (c.new-reader.ensures.rest ∙ c.written.ensures.bits) (c.in-Ok.ensures.accepted.0 refl).0 in
    let below : c.args.header.length < 2 ^ 32 = search rules in
    let drift_fits : FitsSigned w16 c.args.header.drift = search rules in
    (λ some. absurd (none_true some), λ h. absurd (c.in-Err-read_header.ensures c.args.header [] (below, fits_digits c.args.header.drift drift_fits) there))
