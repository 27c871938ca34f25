use Rattle.std.proofs.Common.{◌^◌, ◌≤◌, [], subst, ◌∙◌, arith, rules}
use Rattle.bitvec_stream.specs.Golomb.{golomb, StartsWith}
use Rattle.bitvec_stream.specs.Reader.{unread}
use Rattle.bitvec_stream.proofs.ReadBackLemmas.{from_first, golomb_read, golomb_is_read}
use Rattle.tests_stream.proofs.back.exp_golomb_back.Goals as goal

pub unwrap-requires : goal.unwrap-requires
unwrap-requires g c =
    let number = g.N.BitRegister.number c.args.value in
    let bits = c.new-reader.ensures.rest ∙ c.written.ensures.bits ∙ c.in-Ok.ensures.written.0 ∙ from_first _ (golomb number) _ c.over_unchecked-writer.ensures.position in
    golomb_is_read _ (λ n. 2 ^ g.N.BitRegister.BITS ≤ n) number (unread c.new-reader.result) [] c.read_exp_golomb.result (λ less. omega arith) bits c.read_exp_golomb.ensures.value

pub returns-clause-value : goal.returns-clause-value
returns-clause-value g c =
    let number = g.N.BitRegister.number in
    let bits = c.new-reader.ensures.rest ∙ c.written.ensures.bits ∙ c.in-Ok.ensures.written.0 ∙ from_first _ (golomb (number c.args.value)) _ c.over_unchecked-writer.ensures.position in
    let starts : StartsWith (unread c.new-reader.result) (golomb (number c.unwrap.result)) = search rules in
    ((golomb_read (number c.args.value) []).0 _).0 (subst (λ us. StartsWith us (golomb (number c.unwrap.result))) bits starts)
