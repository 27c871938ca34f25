use Rattle.std.proofs.Common.{◌≡◌, ◌+◌, ◌++◌, ℤ, pos, to_z-of_z, FitsSigned, length, drop, ◌≤◌, refl, sym, subst, arith, rules}
use Rattle.std.specs.Int.{w8, w16}
use Rattle.bitvec_slice.specs.Signed.{complement_of, FitsSignedDigits}
use Rattle.bitvec_slice.proofs.DigitListLemmas.{length-digits_le, length-digits_be}
use Rattle.bitvec_stream.specs.Golomb.{golomb, signed_place}
use Rattle.bitvec_stream.specs.Numbers.{digits_le, digits_be}
use Rattle.bitvec_stream.specs.Writer.{written, room}
use Rattle.tests_stream.proofs.HeaderLemmas.{items_joined, parts_put, put_parts, room_left, none_true, err_not_ok}
use Rattle.tests_stream.proofs.header.write_header.Goals as goal

pub returns-in_err-write_be-clause-accepted : goal.returns-in_err-write_be-clause-accepted
returns-in_err-write_be-clause-accepted g c =
    let header = c.args.header in
    (λ ok. absurd (err_not_ok _ c.from_residual.ensures.0 ok), λ h. (let parts = parts_put header.version header.kind header.length header.offset header.drift (length (room c.args.writer.now)) h in absurd (none_true (c.in_err-write_be.ensures.accepted.1 (omega (arith, parts.3), parts.0)))))

pub returns-in_err-write_le-clause-accepted : goal.returns-in_err-write_le-clause-accepted
returns-in_err-write_le-clause-accepted g c =
    let header = c.args.header in
    let first = room_left (room c.args.writer.now) (room c.write_be.new.self) (digits_be 4 header.version) c.in_ok-write_be.ensures.written.1 in
    let four = length-digits_be 4 header.version in
    (λ ok. absurd (err_not_ok _ c.from_residual-in_err-write_le.ensures.0 ok), λ h. (let parts = parts_put header.version header.kind header.length header.offset header.drift (length (room c.args.writer.now)) h in absurd (none_true (c.in_err-write_le.ensures.accepted.1 (omega (arith, first, four, parts.3), parts.1)))))

pub returns-in_err-write_signed_be-clause-accepted : goal.returns-in_err-write_signed_be-clause-accepted
returns-in_err-write_signed_be-clause-accepted g c =
    let header = c.args.header in
    let first = room_left (room c.args.writer.now) (room c.write_be.new.self) (digits_be 4 header.version) c.in_ok-write_be.ensures.written.1 in
    let four = length-digits_be 4 header.version in
    let second = room_left (room c.write_be.new.self) (room c.write_le.new.self) (digits_le 12 header.kind) c.in_ok-write_le.ensures.written.1 in
    let twelve = length-digits_le 12 header.kind in
    let offset_fits : FitsSigned w8 header.offset = search rules in
    (λ ok. absurd (err_not_ok _ c.from_residual-in_err-write_signed_be.ensures.0 ok), λ h. (let parts = parts_put header.version header.kind header.length header.offset header.drift (length (room c.args.writer.now)) h in absurd (none_true (c.in_err-write_signed_be.ensures.accepted.1 (omega (arith, first, four, second, twelve, parts.3), subst (FitsSignedDigits 6) (sym (to_z-of_z {w = w8} {z = header.offset} offset_fits)) parts.2)))))

pub returns-in_err-write_exp_golomb-clause-accepted : goal.returns-in_err-write_exp_golomb-clause-accepted
returns-in_err-write_exp_golomb-clause-accepted g c =
    let header = c.args.header in
    let first = room_left (room c.args.writer.now) (room c.write_be.new.self) (digits_be 4 header.version) c.in_ok-write_be.ensures.written.1 in
    let four = length-digits_be 4 header.version in
    let second = room_left (room c.write_be.new.self) (room c.write_le.new.self) (digits_le 12 header.kind) c.in_ok-write_le.ensures.written.1 in
    let twelve = length-digits_le 12 header.kind in
    let offset_fits : FitsSigned w8 header.offset = search rules in
    let there = subst (λ (z : ℤ). room c.write_signed_be.new.self ≡ drop (length (digits_be 6 (complement_of 6 z))) (room c.write_le.new.self)) (to_z-of_z {w = w8} {z = header.offset} offset_fits) c.in_ok-write_signed_be.ensures.written.1 in
    let third = room_left (room c.write_le.new.self) (room c.write_signed_be.new.self) (digits_be 6 (complement_of 6 header.offset)) there in
    let six = length-digits_be 6 (complement_of 6 header.offset) in
    (λ ok. absurd (err_not_ok _ c.from_residual-in_err-write_exp_golomb.ensures.0 ok), λ h. (let parts = parts_put header.version header.kind header.length header.offset header.drift (length (room c.args.writer.now)) h in absurd (none_true (c.in_err-write_exp_golomb.ensures.accepted.1 (omega (arith, first, four, second, twelve, third, six, parts.3))))))

pub returns-in_err-write_signed_exp_golomb-clause-accepted : goal.returns-in_err-write_signed_exp_golomb-clause-accepted
returns-in_err-write_signed_exp_golomb-clause-accepted g c =
    let header = c.args.header in
    let first = room_left (room c.args.writer.now) (room c.write_be.new.self) (digits_be 4 header.version) c.in_ok-write_be.ensures.written.1 in
    let four = length-digits_be 4 header.version in
    let second = room_left (room c.write_be.new.self) (room c.write_le.new.self) (digits_le 12 header.kind) c.in_ok-write_le.ensures.written.1 in
    let twelve = length-digits_le 12 header.kind in
    let offset_fits : FitsSigned w8 header.offset = search rules in
    let there = subst (λ (z : ℤ). room c.write_signed_be.new.self ≡ drop (length (digits_be 6 (complement_of 6 z))) (room c.write_le.new.self)) (to_z-of_z {w = w8} {z = header.offset} offset_fits) c.in_ok-write_signed_be.ensures.written.1 in
    let third = room_left (room c.write_le.new.self) (room c.write_signed_be.new.self) (digits_be 6 (complement_of 6 header.offset)) there in
    let six = length-digits_be 6 (complement_of 6 header.offset) in
    let fourth = room_left (room c.write_signed_be.new.self) (room c.write_exp_golomb.new.self) (golomb header.length) c.in_ok-write_exp_golomb.ensures.written.1 in
    let drift_fits : FitsSigned w16 header.drift = search rules in
    (λ ok. absurd (err_not_ok _ c.from_residual-in_err-write_signed_exp_golomb.ensures.0 ok), λ h. (let parts = parts_put header.version header.kind header.length header.offset header.drift (length (room c.args.writer.now)) h in absurd (none_true (c.in_err-write_signed_exp_golomb.ensures.accepted.1 (subst (λ (z : ℤ). length (golomb (signed_place z)) ≤ length (room c.write_exp_golomb.new.self)) (sym (to_z-of_z {w = w16} {z = header.drift} drift_fits)) (omega (arith, first, four, second, twelve, third, six, fourth, parts.3)))))))

pub returns-clause-accepted : goal.returns-clause-accepted
returns-clause-accepted g c =
    let header = c.args.header in
    let first = room_left (room c.args.writer.now) (room c.write_be.new.self) (digits_be 4 header.version) c.in_ok-write_be.ensures.written.1 in
    let four = length-digits_be 4 header.version in
    let second = room_left (room c.write_be.new.self) (room c.write_le.new.self) (digits_le 12 header.kind) c.in_ok-write_le.ensures.written.1 in
    let twelve = length-digits_le 12 header.kind in
    let offset_fits : FitsSigned w8 header.offset = search rules in
    let there = subst (λ (z : ℤ). room c.write_signed_be.new.self ≡ drop (length (digits_be 6 (complement_of 6 z))) (room c.write_le.new.self)) (to_z-of_z {w = w8} {z = header.offset} offset_fits) c.in_ok-write_signed_be.ensures.written.1 in
    let third = room_left (room c.write_le.new.self) (room c.write_signed_be.new.self) (digits_be 6 (complement_of 6 header.offset)) there in
    let six = length-digits_be 6 (complement_of 6 header.offset) in
    let fourth = room_left (room c.write_signed_be.new.self) (room c.write_exp_golomb.new.self) (golomb header.length) c.in_ok-write_exp_golomb.ensures.written.1 in
    let drift_fits : FitsSigned w16 header.drift = search rules in
    let offset = subst (FitsSignedDigits 6) (to_z-of_z {w = w8} {z = header.offset} offset_fits) (c.in_ok-write_signed_be.ensures.accepted.0 refl).1 in
    let long = subst (λ (z : ℤ). length (golomb (signed_place z)) ≤ length (room c.write_exp_golomb.new.self)) (to_z-of_z {w = w16} {z = header.drift} drift_fits) (c.in_ok-write_signed_exp_golomb.ensures.accepted.0 refl) in
    let version = c.in_ok-write_be.ensures.accepted.0 refl in
    let kind = c.in_ok-write_le.ensures.accepted.0 refl in
    let digits = (c.in_ok-write_signed_be.ensures.accepted.0 refl).0 in
    let code = c.in_ok-write_exp_golomb.ensures.accepted.0 refl in
    let all : 22 + (length (golomb header.length) + length (golomb (signed_place header.drift))) ≤ length (room c.args.writer.now) = omega (arith, first, four, second, twelve, third, six, fourth, version.0, kind.0, digits, code, long) in
    (λ ok. put_parts header.version header.kind header.length header.offset header.drift (length (room c.args.writer.now)) version.1 kind.1 offset all, λ h. refl)

pub returns-clause-written : goal.returns-clause-written
returns-clause-written g c =
    let header = c.args.header in
    let offset_fits : FitsSigned w8 header.offset = search rules in
    let drift_fits : FitsSigned w16 header.drift = search rules in
    let w1 = written c.args.writer.now in
    let w2 = written c.write_be.new.self in
    let w3 = written c.write_le.new.self in
    let w4 = written c.write_signed_be.new.self in
    let w5 = written c.write_exp_golomb.new.self in
    let w6 = written c.write_signed_exp_golomb.new.self in
    let offset = subst (λ (z : ℤ). w4 ≡ w3 ++ digits_be 6 (complement_of 6 z)) (to_z-of_z {w = w8} {z = header.offset} offset_fits) c.in_ok-write_signed_be.ensures.written.0 in
    let drift = subst (λ (z : ℤ). w6 ≡ w5 ++ golomb (signed_place z)) (to_z-of_z {w = w16} {z = header.drift} drift_fits) c.in_ok-write_signed_exp_golomb.ensures.written.0 in
    items_joined header.version header.kind header.length header.offset header.drift w1 w2 w3 w4 w5 w6 c.in_ok-write_be.ensures.written.0 c.in_ok-write_le.ensures.written.0 offset c.in_ok-write_exp_golomb.ensures.written.0 drift
