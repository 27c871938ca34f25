use Rattle.std.proofs.Common.{◌≡◌, ◌-◌, ◌*◌, length, sym, ap, subst, ◌∙◌}
use Rattle.bitvec_slice.specs.BitSlice.{slice_bits}
use Rattle.bitvec_stream.specs.Golomb.{golomb, signed_place, IsSignedLacking}
use Rattle.bitvec_stream.specs.Reader.{unread, Passes}
use Rattle.bitvec_stream.proofs.GolombLemmas.{code_of, code_lacking}
use Rattle.bitvec_stream.proofs.reader.BitReader.read_signed_exp_golomb.Goals as goal

pub returns-in-Some-clause-value : goal.returns-in-Some-clause-value
returns-in-Some-clause-value g c =
    (code_of (unread c.args.self.now) (slice_bits c.in_ok-digits.digits) (signed_place (g.N.SignedNumber.number c.in-Some.value)) c.in_ok-digits.ensures c.in-Some.ensures).0

pub returns-in-Some-clause-moved : goal.returns-in-Some-clause-moved
returns-in-Some-clause-moved g c =
    let code = code_of (unread c.args.self.now) (slice_bits c.in_ok-digits.digits) (signed_place (g.N.SignedNumber.number c.in-Some.value)) c.in_ok-digits.ensures c.in-Some.ensures in
    let same : 2 * c.len.result - 1 ≡ length (golomb (signed_place (g.N.SignedNumber.number c.in-Some.value))) = ap (λ n. 2 * n - 1) c.len.ensures.list ∙ sym code.1 in
    subst (λ n. Passes c.args.self.now c.pass.new.self n) same c.pass.ensures

pub returns-in-None-clause-value : goal.returns-in-None-clause-value
returns-in-None-clause-value g c = code_lacking (unread c.args.self.now) (slice_bits c.in_ok-digits.digits) (IsSignedLacking g.N.SignedNumber.BITS) c.in_ok-digits.ensures c.in-None.ensures
