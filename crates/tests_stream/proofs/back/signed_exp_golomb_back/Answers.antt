use Rattle.std.proofs.Common.{ℤ, Bool, List, [], subst, ◌∙◌, rules}
use Rattle.bitvec_stream.specs.Golomb.{golomb, signed_place, StartsWith}
use Rattle.bitvec_stream.specs.Reader.{unread}
use Rattle.bitvec_stream.proofs.ReadBackLemmas.{from_first, signed_golomb_read, signed_golomb_is_read}
use Rattle.tests_stream.proofs.back.signed_exp_golomb_back.Goals as goal

pub unwrap-requires : goal.unwrap-requires
unwrap-requires g c =
    let number = g.N.SignedNumber.number c.args.value in
    let bits = c.new-reader.ensures.rest ∙ c.written.ensures.bits ∙ c.in-Ok.ensures.written.0 ∙ from_first _ (golomb (signed_place number)) _ c.over_unchecked-writer.ensures.position in
    signed_golomb_is_read _ g.N.SignedNumber.BITS number (unread c.new-reader.result) [] c.read_signed_exp_golomb.result c.to_i128.ensures.digits bits c.read_signed_exp_golomb.ensures.value

pub returns-clause-value : goal.returns-clause-value
returns-clause-value g c =
    let number = g.N.SignedNumber.number in
    let code : ℤ → List Bool = λ z. golomb (signed_place z) in
    let bits = c.new-reader.ensures.rest ∙ c.written.ensures.bits ∙ c.in-Ok.ensures.written.0 ∙ from_first _ (code (number c.args.value)) _ c.over_unchecked-writer.ensures.position in
    let starts : StartsWith (unread c.new-reader.result) (code (number c.unwrap.result)) = search rules in
    ((signed_golomb_read (number c.args.value) []).0 _).0 (subst (λ us. StartsWith us (code (number c.unwrap.result))) bits starts)
