use Rattle.std.proofs.Common.{◌≡◌, ℕ, ◌+◌, ◌^◌, ◌<◌, ◌≤◌, Bool, List, length, map, refl, sym, ap, ◌∙◌, subst, arith, rules}
use Rattle.bitvec_stream.specs.Golomb.{golomb, StartsWith}
use Rattle.bitvec_stream.specs.Refusals.{IsCodeRefusal}
use Rattle.bitvec_call.specs.RunStatus.{IsFirstFailed}
use Rattle.bitvec_call.specs.Stream.{bits_between, code_conditions}
use Rattle.bitvec_call.proofs.StreamLemmas.{taken, refused, code_taken, code_refused, not_below}
use Rattle.bitvec_call.proofs.read_code.read_exp_golomb_in.Goals as goal

pub returns-in-Ok : goal.returns-in-Ok
returns-in-Ok g c =
    let left = bits_between g.R.BitRegister.BITS g.O.BitAt.at_of c.args.place.now c.args.end (map g.R.BitRegister.number c.args.memory.now) in
    let is = c.reader_between-reader.ensures.rest in
    let number = c.in-Ok.value in
    let starts = subst (λ (xs : List Bool). StartsWith xs (golomb number)) is c.in-Ok.ensures.value in
    let below : number < 2 ^ 64 = search rules in
    let long : c.position.result ≡ length (golomb number) = omega (arith, c.position.ensures.value, c.in-Ok.ensures.moved.1, c.reader_between-reader.ensures.position) in
    taken _ _ _ _ _ _ (code_taken (λ n. n < 2 ^ 64) left number below starts) starts (ap (λ n. c.args.place.now + n) long)

pub returns-in-Err : goal.returns-in-Err
returns-in-Err g c =
    let left = bits_between g.R.BitRegister.BITS g.O.BitAt.at_of c.args.place.now c.args.end (map g.R.BitRegister.number c.args.memory.now) in
    let is = c.reader_between-reader.ensures.rest in
    let none = subst (λ (xs : List Bool). IsCodeRefusal (λ n. 2 ^ 64 ≤ n) xs c.in-Err.error) is c.in-Err.ensures.value in
    let first = code_refused (λ n. n < 2 ^ 64) (λ n. 2 ^ 64 ≤ n) left c.in-Err.error not_below none in
    let status = c.status_of.ensures in
    refused _ _ _ _ _ _ _ (λ e. first.0 (sym status ∙ e)) (subst (λ (n : ℕ). IsFirstFailed (code_conditions (λ n. n < 2 ^ 64) left) n) (sym status) first.1) refl refl
