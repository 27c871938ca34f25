use Rattle.std.proofs.Common.{ℕ, Bool, List, map, refl, sym, ◌∙◌, subst}
use Rattle.bitvec_stream.specs.Golomb.{IsSignedLacking}
use Rattle.bitvec_stream.specs.Refusals.{IsCodeRefusal}
use Rattle.bitvec_call.specs.RunStatus.{IsFirstFailed}
use Rattle.bitvec_call.specs.Stream.{bits_between, code_conditions, IsSignedPlace}
use Rattle.bitvec_call.proofs.StreamLemmas.{refused, code_refused, not_signed}
use Rattle.bitvec_call.proofs.read_code.read_signed_exp_golomb_in.Goals as goal

pub returns-in-Err : goal.returns-in-Err
returns-in-Err g c =
    let left = bits_between g.R.BitRegister.BITS g.O.BitAt.at_of c.args.place.now c.args.end (map g.R.BitRegister.number c.args.memory.now) in
    let is = c.reader_between-reader.ensures.rest in
    let none = subst (λ (xs : List Bool). IsCodeRefusal (IsSignedLacking 64) xs c.in-Err.error) is c.in-Err.ensures.value in
    let first = code_refused IsSignedPlace (IsSignedLacking 64) left c.in-Err.error not_signed none in
    let status = c.status_of.ensures in
    refused _ _ _ _ _ _ _ (λ e. first.0 (sym status ∙ e)) (subst (λ (n : ℕ). IsFirstFailed (code_conditions IsSignedPlace left) n) (sym status) first.1) refl refl
